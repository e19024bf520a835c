use Rattle.watershed_cut.proofs.LowerNodes.{AreOverLowerTo}
use Rattle.watershed_cut.proofs.plateaus.over_lower.Given as goal

-- the plateaus over the lower inner nodes so far
abbrev pub invariant-loop-i : goal.invariant-loop-i
invariant-loop-i l = AreOverLowerTo l.tree l.i l.over.items
