use Rattle.std.proofs.Common.{◌≡◌, ◌-◌, ◌*◌, ◌/◌, ◌%◌, map}
use Rattle.std.specs.List.{range_with_len}
use Rattle.contour_map.specs.Contours.{point_value}
use Rattle.contour_map.proofs.map.points.Given as goal

-- the points so far
abbrev pub invariant-loop-i : goal.invariant-loop-i
invariant-loop-i l =
    l.points.items ≡ map (λ i. point_value l.edges.width l.edges.height l.edges.values.now (i % (2 * l.edges.width - 1)) (i / (2 * l.edges.width - 1))) (range_with_len 0 l.i)
