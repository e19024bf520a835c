use Rattle.merge_board.proofs.States.{part_status, one_state}
use Rattle.merge_board.proofs.laws.parts_of_a_board.Goals as goal

pub returns-clause-state : goal.returns-clause-state
returns-clause-state c key = part_status key.plan.value key.workers

pub returns-clause-one : goal.returns-clause-one
returns-clause-one c key = one_state key.plan.value key.workers
