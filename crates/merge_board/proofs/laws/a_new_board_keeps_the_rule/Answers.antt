use Rattle.merge_board.proofs.Opening.{opens_board}
use Rattle.merge_board.proofs.laws.a_new_board_keeps_the_rule.Goals as goal

pub returns : goal.returns
returns c key = opens_board key.plan.value key.workers
