use Rattle.watershed_cut.proofs.TreeLabels.{tree-label_walk, tree-label_range, tree-label_same, cut-between}
use Rattle.watershed_cut.proofs.laws.labels_of_trees.Goals as goal

pub returns-clause-label : goal.returns-clause-label
returns-clause-label c = tree-label_walk

pub returns-clause-range : goal.returns-clause-range
returns-clause-range c = tree-label_range

pub returns-clause-same : goal.returns-clause-same
returns-clause-same c = tree-label_same

pub returns-clause-cut : goal.returns-clause-cut
returns-clause-cut c = cut-between
