use Rattle.std.proofs.Common.{◌≡◌, map}
use Rattle.std.specs.List.{range_with_len}
use Rattle.energy_cut.specs.Energies.{node_energy}
use Rattle.energy_cut.proofs.energies.energies.Given as goal

-- the nodes so far have their energies
abbrev pub invariant-loop-i : goal.invariant-loop-i
invariant-loop-i l = l.energies.items ≡ map (node_energy l.tree l.areas l.penalty) (range_with_len 0 l.i)
