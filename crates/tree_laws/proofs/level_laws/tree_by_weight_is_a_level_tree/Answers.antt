use Rattle.tree_laws.proofs.Levels.{level-tree}
use Rattle.tree_laws.proofs.level_laws.tree_by_weight_is_a_level_tree.Goals as goal

pub returns : goal.returns
returns c = level-tree
