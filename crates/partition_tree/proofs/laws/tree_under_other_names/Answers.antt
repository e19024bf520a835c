use Rattle.partition_tree.proofs.PlacedTree.{placed-tree}
use Rattle.partition_tree.proofs.laws.tree_under_other_names.Goals as goal

pub returns : goal.returns
returns c = placed-tree
