use Rattle.std.proofs.Common.{◌≡◌, take}
use Rattle.higra_report.proofs.components.values_of.Given as goal

-- the samples so far
abbrev pub invariant-loop-i : goal.invariant-loop-i
invariant-loop-i l = l.values.items ≡ take l.i l.picture.samples
