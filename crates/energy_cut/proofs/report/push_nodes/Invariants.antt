use Rattle.std.proofs.Common.{◌≡◌, ◌++◌, take}
use Rattle.std.specs.List.{flat_map}
use Rattle.energy_cut.specs.Report.{energy_line}
use Rattle.energy_cut.proofs.report.push_nodes.Given as goal

-- the nodes so far have their lines
abbrev pub invariant-loop-i : goal.invariant-loop-i
invariant-loop-i l = l.text.items ≡ l.fn.text.items ++ flat_map (energy_line l.energies) (take l.i-index l.nodes)
