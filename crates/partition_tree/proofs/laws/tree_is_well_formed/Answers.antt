use Rattle.partition_tree.proofs.TreeLemmas.{tree-well_formed, tree-rises}
use Rattle.partition_tree.proofs.laws.tree_is_well_formed.Goals as goal

pub returns-clause-well_formed : goal.returns-clause-well_formed
returns-clause-well_formed c = tree-well_formed

pub returns-clause-rises : goal.returns-clause-rises
returns-clause-rises c = tree-rises
