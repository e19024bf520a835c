use Rattle.energy_cut.specs.LeastEnergies.{keeps_own}
use Rattle.energy_cut.proofs.HighestAbove.{AreHighestFrom}
use Rattle.energy_cut.proofs.choosing.send_down.Given as goal

-- the nodes from i on have their tops
abbrev pub invariant-loop-i : goal.invariant-loop-i
invariant-loop-i l = AreHighestFrom l.tree (keeps_own l.energies l.least) l.i l.tops
