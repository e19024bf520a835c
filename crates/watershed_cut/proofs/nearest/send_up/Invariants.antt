use Rattle.watershed_cut.proofs.HolderStops.{AreSentUp}
use Rattle.watershed_cut.proofs.nearest.send_up.Given as goal

-- the marks of the nodes so far are sent up
abbrev pub invariant-loop-i : goal.invariant-loop-i
invariant-loop-i l = AreSentUp l.tree l.minima.vertices l.i l.holds
