use Rattle.extinction.proofs.OwnLemmas.{AreLowestTo}
use Rattle.extinction.proofs.lowest.lowest_nodes.Given as goal

-- the labels that were met are at their last nodes
abbrev pub invariant-loop-i : goal.invariant-loop-i
invariant-loop-i l = AreLowestTo l.tree l.minima l.i l.lowest.items
