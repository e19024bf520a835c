-- What holds of every plan: how its parts stand to each other, and which edges and places are whose.
use Rattle.std.specs.Prelude.{◌≡◌, ◌≢◌, ℕ, ◌+◌, ◌-◌, ◌*◌, ◌<◌, ◌≤◌, ◌⊎◌, ◌↔◌, [], ◌∷◌, ◌++◌}
use Rattle.edge_laws.specs.Edges.{ListedEdge, AreApart}
use Rattle.hg_base.specs.Lists.{IsIn}
use Rattle.edge_laws.specs.Rising.{IsRising}
use Rattle.tile_plan.specs.Sites.{other_side}
use Rattle.tile_plan.specs.declared.site.Side.{Side}
use Rattle.tile_plan.specs.declared.site.Side.TheVariants as sides
use Rattle.tile_plan.specs.Plan.{TilePlan, IsEdgeAmong, vertices, tile_count, part_count, root, first_tile, tiles_of, left, right, parent, side, half_on, sibling, first_place, end_place, IsPlaceOf, post, place_of, home, lot_edges, edges_at, room_tiles}

-- the part is the half of its parent on its side, and its sibling is the other half
pub record IsHalfOfParent (p : TilePlan) (i : ℕ) : Type 0 where
  pub within : parent p i < part_count p
  pub half : half_on p (parent p i) (side p i) ≡ i
  pub sibling_within : sibling p i < part_count p
  pub sibling_parent : parent p (sibling p i) ≡ parent p i
  pub sibling_side : side p (sibling p i) ≡ other_side (side p i)

-- The parent of a part, a later merge, and the side on which the part stands. The root's parent is the number after the
-- last part, and the root stands as a left half.
pub record HasParentAndSide (p : TilePlan) (i : ℕ) : Type 0 where
  pub later : i < parent p i
  pub merge : tile_count p ≤ parent p i
  pub inner : i ≢ root p → IsHalfOfParent p i
  pub of_root : i ≡ root p → (parent p i ≡ 2 * tile_count p - 1) × (side p i ≡ sides.Left)

-- part i is a half of merge m, and stands on this side
pub record IsHalfOn (p : TilePlan) (m : ℕ) (on : Side) (i : ℕ) : Type 0 where
  pub below : i < m
  pub parent_is : parent p i ≡ m
  pub side_is : side p i ≡ on

-- the tiles of merge m are those of its left half, then those of its right half
pub record DividesTiles (p : TilePlan) (m : ℕ) : Type 0 where
  pub left_first : first_tile p (left p m) ≡ first_tile p m
  pub right_first : first_tile p (right p m) ≡ first_tile p m + tiles_of p (left p m)
  pub sum : tiles_of p (left p m) + tiles_of p (right p m) ≡ tiles_of p m

-- and its places are those of its left half, then those of its right half
pub record DividesPlaces (p : TilePlan) (m : ℕ) : Type 0 where
  pub left_first : first_place p (left p m) ≡ first_place p m
  pub right_first : first_place p (right p m) ≡ end_place p (left p m)
  pub right_end : end_place p (right p m) ≡ end_place p m

-- the halves of merge m: who they are, and that their tiles and places follow each other
pub record HasHalves (p : TilePlan) (m : ℕ) : Type 0 where
  pub left_half : IsHalfOn p m sides.Left (left p m)
  pub right_half : IsHalfOn p m sides.Right (right p m)
  pub tiles : DividesTiles p m
  pub places : DividesPlaces p m

-- the parts and the edges at and below merge m are those of its halves, then itself and its lot
pub record JoinsHalves (p : TilePlan) (m : ℕ) : Type 0 where
  pub parts : post p m ≡ (post p (left p m) ++ post p (right p m)) ++ m ∷ []
  pub edges : edges_at p m ≡ (edges_at p (left p m) ++ edges_at p (right p m)) ++ lot_edges p m

-- a border edge has one end in each half
abbrev pub Crosses : TilePlan → ℕ → ListedEdge → Type 0
Crosses p m e = (IsPlaceOf p (left p m) e.u × IsPlaceOf p (right p m) e.v) ⊎ (IsPlaceOf p (left p m) e.v × IsPlaceOf p (right p m) e.u)

-- the tiles and the places of a part, and that the room of its first tile holds it
pub record IsSomewhere (p : TilePlan) (i : ℕ) : Type 0 where
  pub some_tile : 1 ≤ tiles_of p i
  pub tiles : first_tile p i + tiles_of p i ≤ tile_count p
  pub some_place : first_place p i < end_place p i
  pub places : end_place p i ≤ vertices p
  pub covers : (v : ℕ) → v < vertices p → (IsPlaceOf p i (place_of p v) ↔ ((first_tile p i ≤ home p v) × (home p v < first_tile p i + tiles_of p i)))
  pub room : tiles_of p i ≤ room_tiles p (first_tile p i)
  pub room_tiles : first_tile p i + room_tiles p (first_tile p i) ≤ tile_count p

-- tile t is the only part at and below it
pub record IsTile (p : TilePlan) (t : ℕ) : Type 0 where
  pub first : first_tile p t ≡ t
  pub one : tiles_of p t ≡ 1
  pub post : post p t ≡ t ∷ []
  pub edges : edges_at p t ≡ lot_edges p t

-- the edges at and below a part: different ranks, and ends that differ and are places of the part; lots rise
pub record HasEdges (p : TilePlan) (i : ℕ) : Type 0 where
  pub apart : AreApart (edges_at p i)
  pub rising : IsRising (lot_edges p i)
  pub first_ends : (e : ListedEdge) → IsIn e (edges_at p i) → IsPlaceOf p i e.u
  pub second_ends : (e : ListedEdge) → IsIn e (edges_at p i) → IsPlaceOf p i e.v
  pub among : (e : ListedEdge) → IsIn e (edges_at p i) → IsEdgeAmong (vertices p) e
