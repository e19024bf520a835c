use Rattle.std.proofs.Common.{◌≡◌, ◌≤◌, All, take}
use Rattle.contour_map.specs.Scaling.{highest}
use Rattle.contour_map.proofs.scaling.highest.Given as goal

-- the highest so far
abbrev pub invariant-loop-value : goal.invariant-loop-value
invariant-loop-value l = record {
  value : l.high ≡ highest (take l.value-index l.values);
  most : All (λ v. v ≤ l.high) (take l.value-index l.values);
}
