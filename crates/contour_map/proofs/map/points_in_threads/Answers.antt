use Rattle.std.proofs.Common.{◌≡◌, ◌∙◌, ◌++◌, ℕ, List, ap, take, drop, length, arith}
use Rattle.std.proofs.Math.Seq.{take-append_seam}
use Rattle.contour_map.proofs.map.points_in_threads.Goals as goal

pub returns : goal.returns
returns g c =
    let filled = c.fill.new.points in
    let rest : List ℕ = drop (length filled) c.in_ok-points.points.items in
    let long : c.in_ok-points.points.len ≡ length filled = omega (arith, c.in_ok-points.points.ok, c.deref_mut.ensures.len, c.fill.auto.points) in
    ap (λ (n : ℕ). take n (filled ++ rest)) long ∙ take-append_seam filled rest ∙ c.fill.ensures
