use Rattle.merge_board.proofs.Allowed.{may_draw}
use Rattle.merge_board.proofs.laws.draws_keep_the_rule.Goals as goal

pub returns : goal.returns
returns c key = may_draw key.plan.value key.workers
