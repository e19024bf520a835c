-- When a part stands for an edge list: climbing from each place meets the chain of that place.
use Rattle.std.specs.Prelude.{◌≡◌, ◌≢◌, ℕ, zero, suc, ◌<◌, ◌^◌, List, [], ◌∷◌, length, Option, Some, None}
use Rattle.edge_laws.specs.Edges.{ListedEdge, EdgeList, AreApart, chain}
use Rattle.hg_base.specs.Lists.{IsIn}
use Rattle.edge_laws.specs.Placed.{ranks}
use Rattle.node_region.specs.Pool.{CellPool, IsCovered, cell_at, leaf_of, IsUsed}
use Rattle.node_region.specs.declared.cell.Cell.{Cell}

-- A part as contracts see it: its region, the numbers of the parts taken in, and how many edges were given.
pub record PartState : Type 0 where
  pub region : CellPool
  pub lots : List ℕ
  pub given : ℕ

-- the cells met from a number upwards have these ranks
abbrev pub IsClimb : CellPool → Option ℕ → List ℕ → Type 0
IsClimb pool None [] = Unit {0}
IsClimb pool None (r ∷ rs) = ⊥
IsClimb pool (Some id) [] = ⊥
IsClimb pool (Some id) (r ∷ rs) = (c : Cell) × ((cell_at pool id ≡ Some c) × ((c.rank ≡ r) × IsClimb pool c.up rs))

-- the cells met from place x upwards have these ranks
abbrev pub IsTrace : PartState → ℕ → List ℕ → Type 0
IsTrace part x rs = IsClimb part.region (leaf_of part.region x) rs

-- the cell of number id is met from a number upwards, d cells further up
abbrev pub IsMet : CellPool → ℕ → Option ℕ → ℕ → Type 0
IsMet pool d None id = ⊥
IsMet pool zero (Some i) id = i ≡ id
IsMet pool (suc d) (Some i) id = (c : Cell) × ((cell_at pool i ≡ Some c) × IsMet pool d c.up id)

-- the cell of number id is met from some place
abbrev pub IsMetFromPlace : PartState → ℕ → Type 0
IsMetFromPlace part id = (x : ℕ) × (IsCovered part.region x × ((d : ℕ) × IsMet part.region d (leaf_of part.region x) id))

-- The part stands for the list: the trace of each place is its chain, and no cell is left over.
pub record Stands (part : PartState) (s : EdgeList) : Type 0 where
  pub first_ends : (e : ListedEdge) → IsIn e s → IsCovered part.region e.u
  pub second_ends : (e : ListedEdge) → IsIn e s → IsCovered part.region e.v
  pub two_ends : (e : ListedEdge) → IsIn e s → e.u ≢ e.v
  pub apart : AreApart s
  pub small : (e : ListedEdge) → IsIn e s → e.rank < 2 ^ 32
  pub traces : (x : ℕ) → IsCovered part.region x → IsTrace part x (ranks (chain s x))
  pub met : (id : ℕ) → IsUsed part.region id → IsMetFromPlace part id
  pub alone : (i j : ℕ) (b c : Cell) → cell_at part.region i ≡ Some b → cell_at part.region j ≡ Some c → b.rank ≡ c.rank → i ≡ j
  pub given : part.given ≡ length s

-- no edge of the list has this rank
abbrev pub IsNewRank : ℕ → EdgeList → Type 0
IsNewRank rank s = (e : ListedEdge) → IsIn e s → e.rank ≢ rank
