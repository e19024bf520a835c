use Rattle.std.proofs.Common.{ℕ, ◌-◌, ◌*◌, List, sym, subst}
use Rattle.contour_map.specs.Contours.{IsContourMap, PointGrid}
use Rattle.contour_map.proofs.MapPoints.{is_contour_map}
use Rattle.contour_map.proofs.map.map_with.Goals as goal

pub returns-clause-contours : goal.returns-clause-contours
returns-clause-contours c =
    let w = c.args.edges.now.width in
    let h = c.args.edges.now.height in
    let grid = λ (points : List ℕ). (let m : PointGrid = record { columns = 2 * w - 1; rows = 2 * h - 1; points = points } in m) in
    subst (λ (points : List ℕ). IsContourMap w h c.args.edges.now.values.now (grid points)) (sym c.requires.points) (is_contour_map w h c.args.edges.now.values.now c.requires.values)
