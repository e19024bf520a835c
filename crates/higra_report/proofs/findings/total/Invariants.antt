use Rattle.std.proofs.Common.{◌≡◌, ◌*◌, ◌≤◌, take}
use Rattle.std.specs.Prelude.{sum}
use Rattle.higra_report.proofs.findings.total.Given as goal

-- the values so far are summed, and each is below 2 ^ 32
abbrev pub invariant-loop-e : goal.invariant-loop-e
invariant-loop-e l = record {
  so_far : l.total ≡ sum (take l.e l.values);
  small : l.total ≤ l.e * 4294967295;
}
