use Rattle.std.proofs.Common.{◌≡◌, ℕ, ◌<◌, ◌+◌, ◌*◌, ◌/◌, ◌%◌, ◌∙◌, arith, sym, subst}
use Rattle.tile_plan.specs.declared.site.Grid.{Grid}
use Rattle.tile_plan.specs.declared.frame.Frame.{Frame}
use Rattle.tile_plan.specs.Grids.{tiles_in, tile_in}
use Rattle.tile_plan.specs.TiledPictures.{grid_in, home_in, IsFrame, vertices_in}
use Rattle.tile_plan.proofs.Laying.{vertex-place, vertex-tile}
use Rattle.tile_plan.proofs.tables.home.Goals as goal

-- the place of the vertex's tile
place-of : (f : Frame) (grid : Grid) (v : ℕ) → grid ≡ grid_in f → IsFrame f → v < vertices_in f → v / f.width / f.side * grid.columns + v % f.width / f.side < tiles_in grid
place-of f grid v same frame l = subst (λ (g : Grid). v / f.width / f.side * g.columns + v % f.width / f.side < tiles_in g) (sym same) (vertex-place f v frame l)

pub bounds-numbers-place : goal.bounds-numbers-place
bounds-numbers-place c = omega (arith, place-of c.args.frame c.args.grid c.args.vertex c.requires.grid c.requires.frame c.requires.vertex, c.requires.numbers.long)

pub overflow_mul-place : goal.overflow_mul-place
overflow_mul-place c = omega (arith, place-of c.args.frame c.args.grid c.args.vertex c.requires.grid c.requires.frame c.requires.vertex, c.requires.small.few)

pub overflow_add-place : goal.overflow_add-place
overflow_add-place c = omega (arith, place-of c.args.frame c.args.grid c.args.vertex c.requires.grid c.requires.frame c.requires.vertex, c.requires.small.few)

pub returns : goal.returns
returns c =
    let f = c.args.frame in let v = c.args.vertex in
    let at = place-of f c.args.grid v c.requires.grid c.requires.frame c.requires.vertex in
    let tile = subst (λ (g : Grid). tile_in g (v / f.width / f.side * g.columns + v % f.width / f.side) ≡ home_in f v) (sym c.requires.grid) (vertex-tile f v c.requires.frame) in
    c.requires.numbers.at _ at ∙ tile
