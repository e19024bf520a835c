use Rattle.std.proofs.Common.{◌≡◌, take}
use Rattle.higra_report.specs.Summary.{greatest}
use Rattle.higra_report.proofs.summary.greatest_altitude.Given as goal

-- the greatest so far
abbrev pub invariant-loop-i : goal.invariant-loop-i
invariant-loop-i l = l.greatest ≡ greatest (take l.i l.tree.altitudes)
