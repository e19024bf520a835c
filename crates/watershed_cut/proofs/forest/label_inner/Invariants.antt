use Rattle.watershed_cut.proofs.ChosenEdges.{AreNodeLabelsTo}
use Rattle.watershed_cut.proofs.forest.label_inner.Given as goal

-- the nodes so far have their labels
abbrev pub invariant-loop-i : goal.invariant-loop-i
invariant-loop-i l = AreNodeLabelsTo l.graph l.tree l.minima.vertices l.near l.i l.labels
