-- What the calls of a part promise.
use Rattle.std.specs.Prelude.{◌≡◌, ◌≢◌, ◌↔◌, ℕ, suc, ◌+◌, ◌≤◌, ◌⊎◌, List, [], ◌++◌, map, Option, None}
use Rattle.std.specs.Option.{option_map_or}
use Rattle.edge_laws.specs.Edges.{ListedEdge, EdgeList, AreApart, Joined, below}
use Rattle.hg_base.specs.Lists.{IsIn}
use Rattle.hg_base.specs.declared.graph.PlacedEdge.{PlacedEdge}
use Rattle.hg_base.specs.declared.graph.Room.{Room}
use Rattle.node_region.specs.Pool.{CellPool, count, IsCovered, cell_at, fresh_pool}
use Rattle.border_climb.specs.declared.given.Given.{Given}
use Rattle.border_climb.specs.declared.given.Given.TheVariants as answers
use Rattle.border_climb.specs.Stands.{PartState, Stands}
use Rattle.border_climb.specs.Splicing.{KeepsRange}

-- z is the least rank such that the edges of the list of rank at most z join a and b
pub record IsLeastRank (s : EdgeList) (a b z : ℕ) : Type 0 where
  pub joins : Joined (below s (suc z)) a b
  pub least : (k : ℕ) → Joined (below s (suc k)) a b → z ≤ k

-- The answer to an edge that is given to a part which stands for the list, each exactly where it says.
pub record IsAnswer (s : EdgeList) (e : PlacedEdge) (answer : Given) : Type 0 where
  -- edges of lower rank join its ends
  pub redundant : (answer ≡ answers.Redundant) ↔ Joined (below s e.rank) e.a e.b
  -- no edges join its ends
  pub joined : (answer ≡ answers.Joined) ↔ (¬ Joined s e.a e.b)
  -- neither, and z is the least rank up to which the edges join its ends
  pub replaced : (z : ℕ) → (answer ≡ answers.Replaced z) ↔ ((¬ Joined (below s e.rank) e.a e.b) × IsLeastRank s e.a e.b z)

-- the range, the chunks, the room and the lots stay
pub record KeepsPart (old new : PartState) : Type 0 where
  pub range : KeepsRange old.region new.region
  pub lots : new.lots ≡ old.lots

-- a part to which no edge was given
abbrev pub empty_part : ℕ → ℕ → Room → PartState
empty_part first count room = record { region = fresh_pool first count room; lots = []; given = 0 }

-- the number above the cell of a number, if there is one
abbrev pub above_cell : CellPool → ℕ → Option ℕ
above_cell pool id = option_map_or (λ c. c.up) (cell_at pool id) None

-- an edge of a list with the rank and the ends of a placed edge
abbrev pub as_listed : PlacedEdge → ListedEdge
as_listed e = record { rank = e.rank; u = e.a; v = e.b; weight = 0; number = 0 }

-- the edges of a list are between covered places, each with two different ends, and no two have one rank
pub record IsLot (pool : CellPool) (lot : List PlacedEdge) : Type 0 where
  pub a : (e : PlacedEdge) → IsIn e lot → IsCovered pool e.a
  pub b : (e : PlacedEdge) → IsIn e lot → IsCovered pool e.b
  pub two : (e : PlacedEdge) → IsIn e lot → e.a ≢ e.b
  pub apart : AreApart (map as_listed lot)

-- one end is a place of the left part, and the other one of the right
abbrev pub Crosses : CellPool → CellPool → PlacedEdge → Type 0
Crosses left right e = (IsCovered left e.a × IsCovered right e.b) ⊎ (IsCovered left e.b × IsCovered right e.a)

-- The parts stand for s and r, which together with the border between them have different ranks.
pub record CanJoin (left right : PartState) (border : List PlacedEdge) (s r : EdgeList) : Type 0 where
  pub left_stands : Stands left s
  pub right_stands : Stands right r
  pub crosses : (e : PlacedEdge) → IsIn e border → Crosses left.region right.region e
  pub apart : AreApart ((s ++ r) ++ map as_listed border)

-- The part stands for s and can take in the edges, which are between its places and have other ranks.
pub record CanTake (part : PartState) (edges : List PlacedEdge) (s : EdgeList) : Type 0 where
  pub stands : Stands part s
  pub a : (e : PlacedEdge) → IsIn e edges → IsCovered part.region e.a
  pub b : (e : PlacedEdge) → IsIn e edges → IsCovered part.region e.b
  pub two : (e : PlacedEdge) → IsIn e edges → e.a ≢ e.b
  pub apart : AreApart (s ++ map as_listed edges)

-- The parts stand for s and r, which together have different ranks.
pub record AreUnited (left right : PartState) (s r : EdgeList) : Type 0 where
  pub left_stands : Stands left s
  pub right_stands : Stands right r
  pub apart : AreApart (s ++ r)

-- for some lists the parts can be joined by the border
abbrev pub SomeJoin : PartState → PartState → List PlacedEdge → Type 0
SomeJoin left right border = (s : EdgeList) × ((r : EdgeList) × CanJoin left right border s r)

-- for some lists the parts stand side by side
abbrev pub SomeUnited : PartState → PartState → Type 0
SomeUnited left right = (s : EdgeList) × ((r : EdgeList) × AreUnited left right s r)

-- the range, the chunks and the room of two parts together
pub record SumsUp (left right whole : PartState) : Type 0 where
  pub first : whole.region.first ≡ left.region.first
  pub count : count whole.region ≡ count left.region + count right.region
  pub chunks : whole.region.chunks ≡ left.region.chunks + right.region.chunks
  pub room : whole.region.room ≡ left.region.room
