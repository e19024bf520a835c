-- When a part is the one of a plan: before its lot was built, and with all edges at and below it.
use Rattle.std.specs.Prelude.{◌≡◌, ℕ, ◌-◌, []}
use Rattle.node_region.specs.Pool.{count}
use Rattle.border_climb.specs.Stands.{PartState, Stands}
use Rattle.tile_plan.specs.Plan.{TilePlan, first_place, end_place, tiles_of, first_tile, room_places, room_tiles, post, edges_at}

-- The part covers part i's range, has as many chunks as i has tiles and the room of i's first tile, took in these
-- parts and stands for these edges.
pub record IsShapedFor (p : TilePlan) (i : ℕ) (part : PartState) : Type 0 where
  pub first : part.region.first ≡ first_place p i
  pub places : count part.region ≡ end_place p i - first_place p i
  pub chunks : part.region.chunks ≡ tiles_of p i
  pub room : part.region.room ≡ record { places = room_places p (first_tile p i); chunks = room_tiles p (first_tile p i) }

-- the part has tile t's range, chunk and room, took in no part and stands for no edges
pub record IsOpened (p : TilePlan) (t : ℕ) (part : PartState) : Type 0 where
  pub shape : IsShapedFor p t part
  pub lots : part.lots ≡ []
  pub stands : Stands part []

-- the part has part i's range, chunks and room, took in the parts at and below i in post-order, and stands for the
-- edges at and below i
pub record IsFitting (p : TilePlan) (i : ℕ) (part : PartState) : Type 0 where
  pub shape : IsShapedFor p i part
  pub lots : part.lots ≡ post p i
  pub stands : Stands part (edges_at p i)

-- the part of tile t before it is built
unfoldable pub Opened : TilePlan → ℕ → PartState → Type 0
Opened p t part = IsOpened p t part

-- the part of number i, built
unfoldable pub Fits : TilePlan → ℕ → PartState → Type 0
Fits p i part = IsFitting p i part
