-- What is told of one edge when the lots are dealt.
use Rattle.std.specs.Prelude.{◌≡◌, ℕ, ◌<◌, ◌*◌, ◌-◌, List, get_or, slice_index}
use Rattle.edge_laws.specs.Edges.{ListedEdge, EdgeList, renamed_edge}
use Rattle.edge_laws.specs.Placed.{placed}
use Rattle.hg_base.specs.declared.graph.Edge.{Edge}
use Rattle.hg_base.specs.declared.graph.PlacedEdge.{PlacedEdge}
use Rattle.tile_plan.specs.Grids.{lot_in, tiles_in}
use Rattle.tile_plan.specs.declared.site.Grid.{Grid}

-- an edge that stands for none
abbrev pub no_edge : ListedEdge
no_edge = record { rank = 0; u = 0; v = 0; weight = 0; number = 0 }

-- the edge of a rank, between places
abbrev pub laid : List ℕ → EdgeList → ℕ → PlacedEdge
laid places s r = placed (renamed_edge (slice_index places) (get_or s r no_edge))

-- the part is the one in whose lot an edge is, by the tiles of the vertices
pub record IsLotOf (grid : Grid) (homes : List ℕ) (edges : List Edge) (number lot : ℕ) : Type 0 where
  pub value : (d : Edge) → lot ≡ lot_in grid (slice_index homes (get_or edges number d).u) (slice_index homes (get_or edges number d).v)
  pub below : lot < 2 * tiles_in grid - 1
