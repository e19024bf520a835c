-- Tile plans, as contracts see them: what they are made of, and everything that follows from it.
use Rattle.std.specs.Prelude.{◌≡◌, ℕ, ◌+◌, ◌-◌, ◌*◌, ◌<◌, ◌≤◌, ◌==◌, ◌≢◌, List, length, filter, Option, Some, None, Result, Ok, Err, if◌then◌else◌}
use Rattle.std.specs.List.{flat_map}
use Rattle.hg_base.specs.Graph.{WeightedGraph}
use Rattle.edge_laws.specs.Rank.{ranked}
use Rattle.edge_laws.specs.Edges.{ListedEdge, EdgeList, renamed}
use Rattle.hg_base.specs.Lists.{IsIn}
use Rattle.edge_laws.specs.Rising.{IsRising}
use Rattle.tile_plan.specs.Merges.{tiles}
use Rattle.tile_plan.specs.Sites.{SitedPart, other_side, post_order, is_lot_of, left_number, right_number}
use Rattle.tile_plan.specs.Grids.{tiles_in, part_in}
use Rattle.tile_plan.specs.TiledPictures.{vertices_in, grid_in, home_in, IsFrame}
use Rattle.tile_plan.specs.Placing.{place_by, start_by}
use Rattle.tile_plan.specs.declared.site.Grid.{Grid}
use Rattle.tile_plan.specs.declared.frame.Frame.{Frame}
use Rattle.tile_plan.specs.declared.fault.PlanFault.{PlanFault}
use Rattle.tile_plan.specs.declared.fault.PlanFault.TheVariants as faults
use Rattle.tile_plan.specs.declared.site.Side.{Side}
use Rattle.tile_plan.specs.declared.site.Side.TheVariants as sides

-- a picture of vertices, row after row, with the side of its tiles; and the edges between vertices
pub record TilePlan : Type 0 where
  pub frame : Frame
  pub edges : EdgeList

-- the plan of a graph over blocks of `side` vertices: one row of tiles
abbrev pub blocks : WeightedGraph → ℕ → TilePlan
blocks g side = record { frame = record { width = g.n; height = 1; side = side }; edges = ranked g }

-- the plan of a graph over the squares of a picture
abbrev pub squares : WeightedGraph → ℕ → ℕ → ℕ → TilePlan
squares g width height side = record { frame = record { width = width; height = height; side = side }; edges = ranked g }

-- how many vertices there are
abbrev pub vertices : TilePlan → ℕ
vertices p = vertices_in p.frame

-- the grid of its tiles
abbrev pub grid_of : TilePlan → Grid
grid_of p = grid_in p.frame

-- how many tiles there are
abbrev pub tile_count : TilePlan → ℕ
tile_count p = tiles_in (grid_of p)

-- the tile of a vertex
abbrev pub home : TilePlan → ℕ → ℕ
home p v = home_in p.frame v

-- the place of a vertex: the places list the tiles in order of number, and in a tile its vertices in rising order
unfoldable pub place_of : TilePlan → ℕ → ℕ
place_of p v = place_by (home p) (vertices p) v

-- the first place of a tile, and where the places end after the last
unfoldable pub start : TilePlan → ℕ → ℕ
start p t = start_by (home p) (vertices p) t

-- the part of number i
unfoldable pub part : TilePlan → ℕ → SitedPart
part p i = part_in (grid_of p) i

-- how many parts there are
abbrev pub part_count : TilePlan → ℕ
part_count p = 2 * tile_count p - 1

-- the last part, in which all are
abbrev pub root : TilePlan → ℕ
root p = 2 * tile_count p - 2

-- the first tile of a part
abbrev pub first_tile : TilePlan → ℕ → ℕ
first_tile p i = (part p i).site.first_tile

-- how many tiles it has
abbrev pub tiles_of : TilePlan → ℕ → ℕ
tiles_of p i = tiles (part p i).tree

-- the left half of a merge
abbrev pub left : TilePlan → ℕ → ℕ
left p i = left_number (tile_count p) (part p i).tree (part p i).site

-- the right half
abbrev pub right : TilePlan → ℕ → ℕ
right p i = right_number (tile_count p) (part p i).tree (part p i).site

-- the merge whose half a part is; the root's parent is beyond the last part
abbrev pub parent : TilePlan → ℕ → ℕ
parent p i = (part p i).site.parent

-- which half of it; the root stands as a left half
abbrev pub side : TilePlan → ℕ → Side
side p i = (part p i).site.side

-- the half of a merge on a side
abbrev pub half_on : TilePlan → ℕ → Side → ℕ
half_on p m sides.Left = left p m
half_on p m sides.Right = right p m

-- the other half of the same merge
abbrev pub sibling : TilePlan → ℕ → ℕ
sibling p i = half_on p (parent p i) (other_side (side p i))

-- the merge above a part, and the side on which it stands
abbrev pub parent_and_side : TilePlan → ℕ → Option (ℕ × Side)
parent_and_side p i = if i == root p then None else Some (parent p i, side p i)

-- the first place of a part
abbrev pub first_place : TilePlan → ℕ → ℕ
first_place p i = start p (first_tile p i)

-- where its places end
abbrev pub end_place : TilePlan → ℕ → ℕ
end_place p i = start p (first_tile p i + tiles_of p i)

-- x is a place of the part
abbrev pub IsPlaceOf : TilePlan → ℕ → ℕ → Type 0
IsPlaceOf p i x = (first_place p i ≤ x) × (x < end_place p i)

-- the parts at and below one, in post-order
abbrev pub post : TilePlan → ℕ → List ℕ
post p i = post_order (tile_count p) (part p i).tree (part p i).site

-- the lot of part i as edges between vertices: both ends in a tile, or one in each half of a merge
unfoldable pub lot_between_vertices : TilePlan → ℕ → EdgeList
lot_between_vertices p i = filter (λ e. is_lot_of (part p i).tree (part p i).site (home p e.u) (home p e.v)) p.edges

-- the lot of part i, between places
unfoldable pub lot_edges : TilePlan → ℕ → EdgeList
lot_edges p i = renamed (place_of p) (lot_between_vertices p i)

-- the edges at and below a part: the lots of its post-order end to end
unfoldable pub edges_at : TilePlan → ℕ → EdgeList
edges_at p i = flat_map (lot_edges p) (post p i)

-- how many tiles the largest part has whose first tile is t
abbrev pub room_tiles : TilePlan → ℕ → ℕ
room_tiles p t = (part p t).site.room

-- how many places it has
abbrev pub room_places : TilePlan → ℕ → ℕ
room_places p t = start p (t + room_tiles p t) - start p t

-- both ends of an edge are among n vertices, and differ, and its rank is small
pub record IsEdgeAmong (n : ℕ) (e : ListedEdge) : Type 0 where
  pub u : e.u < n
  pub v : e.v < n
  pub apart : e.u ≢ e.v
  pub rank : e.rank < 4194304

-- what every plan keeps to
pub record IsPlan (p : TilePlan) : Type 0 where
  pub frame : IsFrame p.frame
  pub tiles : tiles_in (grid_of p) ≤ 65536
  pub few : length p.edges ≤ 4194304
  pub rising : IsRising p.edges
  pub edges : (e : ListedEdge) → IsIn e p.edges → IsEdgeAmong (vertices p) e

-- what asking for a plan answers: too many tiles exactly where there are more than 65,536, with their number
abbrev pub IsAnswer : TilePlan → Result TilePlan PlanFault → Type 0
IsAnswer p (Ok made) = (made ≡ p) × (tile_count p ≤ 65536)
IsAnswer p (Err (faults.TooManyTiles count)) = (count ≡ tile_count p) × (65536 < tile_count p)
IsAnswer p (Err faults.OutOfMemory) = tile_count p ≤ 65536

-- k is the number of tiles of the largest part whose first tile is t
pub record IsLargestFrom (p : TilePlan) (t k : ℕ) : Type 0 where
  pub attained : (i : ℕ) × ((i < part_count p) × ((first_tile p i ≡ t) × (tiles_of p i ≡ k)))
  pub largest : (i : ℕ) → i < part_count p → first_tile p i ≡ t → tiles_of p i ≤ k
