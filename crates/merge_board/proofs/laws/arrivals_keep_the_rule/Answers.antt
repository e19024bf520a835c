use Rattle.merge_board.proofs.Arriving.{may_arrive}
use Rattle.merge_board.proofs.laws.arrivals_keep_the_rule.Goals as goal

pub returns : goal.returns
returns c key = may_arrive key.plan.value key.workers
