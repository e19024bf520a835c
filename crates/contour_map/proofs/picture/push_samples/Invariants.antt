use Rattle.std.proofs.Common.{◌≡◌, ◌++◌, map, take}
use Rattle.std.specs.List.{flat_map}
use Rattle.hg_base.specs.Samples.{sample_bytes}
use Rattle.contour_map.specs.Scaling.{scaled, greatest_sample}
use Rattle.contour_map.proofs.picture.push_samples.Given as goal

-- the samples of the points so far are written
abbrev pub invariant-loop-point : goal.invariant-loop-point
invariant-loop-point l =
    l.bytes.items ≡ l.fn.bytes.items ++ flat_map (sample_bytes (greatest_sample l.high)) (map (scaled l.high) (take l.point-index l.points))
