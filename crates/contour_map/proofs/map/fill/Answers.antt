use Rattle.std.proofs.Common.{◌≡◌, ◌∙◌, ◌-◌, ◌*◌, ◌/◌, ◌%◌, ℕ, length, sym, arith}
use Rattle.std.proofs.lemmas.List.FromFn.{fill_by_all}
use Rattle.contour_map.specs.Contours.{point_value}
use Rattle.contour_map.proofs.map.fill.Goals as goal

pub returns : goal.returns
returns g c =
    let w = c.args.edges.now.width in
    let h = c.args.edges.now.height in
    let count = (2 * w - 1) * (2 * h - 1) in
    let long : length c.par_for_each_mut.new.s ≡ count = omega (arith, c.par_for_each_mut.auto.s, c.requires.all) in
    fill_by_all (λ (i : ℕ). point_value w h c.args.edges.now.values.now (i % (2 * w - 1)) (i / (2 * w - 1))) c.par_for_each_mut.new.s count 0 long
    (λ k lt. let at = (c.par_for_each_mut.ensures k 0 (omega (arith, lt, c.requires.all))).1 in ◌∙◌ {c = point_value w h c.args.edges.now.values.now (k % (2 * w - 1)) (k / (2 * w - 1))} (sym at.left) at.call)
