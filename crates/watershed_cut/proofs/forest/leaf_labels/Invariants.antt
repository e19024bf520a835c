use Rattle.watershed_cut.specs.NearestHolders.{AreLeafLabels}
use Rattle.watershed_cut.proofs.forest.leaf_labels.Given as goal

-- the leaves so far have their labels
abbrev pub invariant-loop-x : goal.invariant-loop-x
invariant-loop-x l = AreLeafLabels l.tree l.minima.vertices l.x l.labels.items
