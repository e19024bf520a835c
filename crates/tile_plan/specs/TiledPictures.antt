-- Pictures of vertices, row after row, and their tiles.
use Rattle.std.specs.Prelude.{ℕ, ◌*◌, ◌/◌, ◌%◌, ◌≤◌}
use Rattle.std.specs.Int.{div_ceil}
use Rattle.tile_plan.specs.Merges.{tile_at}
use Rattle.tile_plan.specs.Grids.{grid_tree}
use Rattle.tile_plan.specs.declared.frame.Frame.{Frame}
use Rattle.tile_plan.specs.declared.site.Grid.{Grid}

-- there is a vertex, and a tile has a side
pub record IsFrame (f : Frame) : Type 0 where
  pub width : 1 ≤ f.width
  pub height : 1 ≤ f.height
  pub side : 1 ≤ f.side
  pub vertices : f.width * f.height ≤ 1048576

-- how many vertices there are
abbrev pub vertices_in : Frame → ℕ
vertices_in f = f.width * f.height

-- the grid of the tiles
abbrev pub grid_in : Frame → Grid
grid_in f = record { columns = div_ceil f.width f.side; rows = div_ceil f.height f.side }

-- the tile of a vertex: that of its column and row, each divided by the side
unfoldable pub home_in : Frame → ℕ → ℕ
home_in f v = tile_at (grid_tree (grid_in f)) (v % f.width / f.side) (v / f.width / f.side)
