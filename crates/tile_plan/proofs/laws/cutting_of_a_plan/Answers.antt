use Rattle.tile_plan.proofs.Cutting.{blocks-home, root-cut}
use Rattle.tile_plan.proofs.laws.cutting_of_a_plan.Goals as goal

pub returns-clause-tree : goal.returns-clause-tree
returns-clause-tree c = root-cut

pub returns-clause-blocks : goal.returns-clause-blocks
returns-clause-blocks c = blocks-home
