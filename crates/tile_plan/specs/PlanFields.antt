-- What the fields of a plan hold.
use Rattle.std.specs.Prelude.{◌≡◌, ℕ, ◌+◌, ◌<◌, ◌≤◌, length, map, slice_index, slice_range}
use Rattle.edge_laws.specs.Placed.{placed}
use Rattle.tile_plan.specs.Grids.{rows_of}
use Rattle.tile_plan.specs.Placing.{IsTable}
use Rattle.tile_plan.specs.Plan.{TilePlan, IsPlan, vertices, grid_of, tile_count, part_count, start, place_of, lot_edges}
use Rattle.tile_plan.specs.declared.plan.Places.{Places}
use Rattle.tile_plan.specs.declared.plan.Lots.{Lots}
use Rattle.tile_plan.specs.declared.plan.Plan.TheInside.{Inside}

-- the first place of each tile, and the place of each vertex
pub record HoldsPlaces (q : TilePlan) (p : Places) : Type 0 where
  pub starts : IsTable (start q) (tile_count q + 1) p.starts.items
  pub places : IsTable (place_of q) (vertices q) p.places.items

-- the lots end to end, and where each begins
pub record HoldsLots (q : TilePlan) (p : Lots) : Type 0 where
  pub long : length p.starts.items ≡ part_count q + 1
  pub rising : (i : ℕ) → i < part_count q → slice_index p.starts.items i ≤ slice_index p.starts.items (i + 1)
  pub within : (i : ℕ) → i < part_count q → slice_index p.starts.items (i + 1) ≤ length p.edges.items
  pub lots : (i : ℕ) → i < part_count q → slice_range p.edges.items (slice_index p.starts.items i) (slice_index p.starts.items (i + 1)) ≡ map placed (lot_edges q i)

abbrev pub plan_of : Inside → TilePlan
plan_of p = record { frame = p.frame; edges = p.order.value.edges }

-- the fields are the tables of a plan
pub record HoldsPlan (p : Inside) : Type 0 where
  pub plan : IsPlan (plan_of p)
  pub tiles : p.tiles ≡ tile_count (plan_of p)
  pub rows : p.rows.items ≡ rows_of (grid_of (plan_of p))
  pub places : HoldsPlaces (plan_of p) p.places
  pub lots : HoldsLots (plan_of p) p.lots
