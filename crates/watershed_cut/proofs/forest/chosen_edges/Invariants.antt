use Rattle.watershed_cut.proofs.ChosenEdges.{AreChosenTo}
use Rattle.watershed_cut.proofs.forest.chosen_edges.Given as goal

-- the edges chosen so far
abbrev pub invariant-loop-i : goal.invariant-loop-i
invariant-loop-i l = AreChosenTo l.graph l.tree l.near l.minima.edges l.i l.chosen.items
