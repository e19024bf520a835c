use Rattle.std.proofs.Common.{◌≡◌, take}
use Rattle.higra_report.proofs.hierarchies.areas_of.Given as goal

-- the areas so far
abbrev pub invariant-loop-i : goal.invariant-loop-i
invariant-loop-i l = l.areas.items ≡ take l.i l.attributes.areas
