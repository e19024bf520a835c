use Rattle.energy_cut.proofs.LeastBelow.{AreGathered}
use Rattle.energy_cut.proofs.choosing.gather_up.Given as goal

-- the nodes so far have their least energies, and have handed them up
abbrev pub invariant-loop-i : goal.invariant-loop-i
invariant-loop-i l = AreGathered l.tree l.energies l.i l.least
