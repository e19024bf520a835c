use Rattle.tile_plan.proofs.Parents.{has_parent, has_halves}
use Rattle.tile_plan.proofs.laws.parts_of_a_plan.Goals as goal

pub returns-clause-parents : goal.returns-clause-parents
returns-clause-parents c = has_parent

pub returns-clause-halves : goal.returns-clause-halves
returns-clause-halves c = has_halves
