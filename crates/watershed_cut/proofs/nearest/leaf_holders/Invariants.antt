use Rattle.watershed_cut.specs.NearestHolders.{AreLeafHolders}
use Rattle.watershed_cut.proofs.nearest.leaf_holders.Given as goal

-- the leaves so far are marked
abbrev pub invariant-loop-x : goal.invariant-loop-x
invariant-loop-x l = AreLeafHolders l.tree l.minima.vertices l.x l.holds.items
