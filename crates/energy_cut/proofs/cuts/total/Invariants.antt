use Rattle.std.proofs.Common.{◌≡◌, ◌*◌, ◌≤◌, take}
use Rattle.energy_cut.specs.Cuts.{cut_energy}
use Rattle.energy_cut.proofs.cuts.total.Given as goal

-- the energies of the nodes so far are summed
abbrev pub invariant-loop-i : goal.invariant-loop-i
invariant-loop-i l = (l.sum ≡ cut_energy l.energies (take l.i-index l.nodes)) × (l.sum ≤ l.i-index * 36893488147419103231)
