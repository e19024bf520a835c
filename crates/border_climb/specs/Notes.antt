-- What is noted at cells and places of cells further up, to climb faster.
use Rattle.std.specs.Prelude.{◌≡◌, ℕ, ◌<◌, ◌≤◌, ◌-◌, ◌^◌, ◌⊎◌, Some}
use Rattle.edge_laws.specs.Edges.{ListedEdge, EdgeList, chain}
use Rattle.hg_base.specs.Lists.{IsIn}
use Rattle.node_region.specs.Pool.{CellPool, IsCovered, cell_at, leaf_of, IsUsed, turn_of, hint_of, finger_of}
use Rattle.node_region.specs.declared.cell.Cell.{Cell}
use Rattle.node_region.specs.declared.cell.Hint.{Hint}
use Rattle.border_climb.specs.Stands.{IsMet}

-- the cell that a note means is still there
pub record IsLive (pool : CellPool) (h : Hint) : Type 0 where
  pub cell : Cell
  pub is : cell_at pool h.cell ≡ Some cell
  pub turn : turn_of pool h.cell ≡ h.turn
  pub fresh : h.turn < 2 ^ 32 - 1

-- no note is of a turn that its number hasn't had, and a number with a cell was taken
pub record AreOld (pool : CellPool) : Type 0 where
  pub hints : (i : ℕ) (h : Hint) → hint_of pool i ≡ Some h → h.turn < 2 ^ 32 - 1 → h.turn ≤ turn_of pool h.cell
  pub fingers : (x : ℕ) (h : Hint) → finger_of pool x ≡ Some h → h.turn < 2 ^ 32 - 1 → h.turn ≤ turn_of pool h.cell
  pub turned : (i : ℕ) (c : Cell) → cell_at pool i ≡ Some c → 1 ≤ turn_of pool i

-- What a part's links and notes keep to: links rise in rank, and what is noted and still there is met further up.
pub record IsSound (pool : CellPool) : Type 0 where
  pub leafs : (x j : ℕ) → IsCovered pool x → leaf_of pool x ≡ Some j → IsUsed pool j
  pub ups : (i j : ℕ) (c : Cell) → cell_at pool i ≡ Some c → c.up ≡ Some j → (b : Cell) × ((cell_at pool j ≡ Some b) × (c.rank < b.rank))
  pub hints : (i : ℕ) (c : Cell) (h : Hint) → cell_at pool i ≡ Some c → hint_of pool i ≡ Some h → IsLive pool h → (d : ℕ) × IsMet pool d c.up h.cell
  pub fingers : (x : ℕ) (h : Hint) → IsCovered pool x → finger_of pool x ≡ Some h → IsLive pool h → (d : ℕ) × IsMet pool d (leaf_of pool x) h.cell
  pub old : AreOld pool

-- From the cells of rank l or more one can climb: their links rise in rank, and their notes lead up.
pub record IsClimbable (pool : CellPool) (l : ℕ) : Type 0 where
  pub ups : (i j : ℕ) (c : Cell) → cell_at pool i ≡ Some c → l ≤ c.rank → c.up ≡ Some j → (b : Cell) × ((cell_at pool j ≡ Some b) × (c.rank < b.rank))
  pub hints : (i : ℕ) (c : Cell) (h : Hint) → cell_at pool i ≡ Some c → l ≤ c.rank → hint_of pool i ≡ Some h → IsLive pool h → (d : ℕ) × IsMet pool d c.up h.cell

-- the note leads up from cell i, whose rank is l or more
pub record IsNote (pool : CellPool) (l i : ℕ) (h : Hint) : Type 0 where
  pub cell : Cell
  pub is : cell_at pool i ≡ Some cell
  pub from : l ≤ cell.rank
  pub links : ℕ
  pub met : IsMet pool links cell.up h.cell
  pub turn : h.turn ≡ turn_of pool h.cell

-- all but the notes at cells is as before, and each of these is as before or leads up from a cell of rank l or more
pub record IsNoted (old new : CellPool) (l : ℕ) : Type 0 where
  pub others : new ≡ record old { hints = new.hints }
  pub each : (i : ℕ) (h : Hint) → hint_of new i ≡ Some h → (hint_of old i ≡ Some h) ⊎ IsNote old l i h

-- an edge of rank q is on the chain of an end of an edge of rank p, further up
pub record LeadsUp (s : EdgeList) (p q : ℕ) : Type 0 where
  pub from : ListedEdge
  pub to : ListedEdge
  pub member : IsIn from s
  pub on_chain : IsIn to (chain s from.u)
  pub from_rank : from.rank ≡ p
  pub to_rank : to.rank ≡ q
  pub up : from.rank < to.rank

-- what the notes say of the list: what is noted and still there is further up the chain
pub record AreNoted (pool : CellPool) (s : EdgeList) : Type 0 where
  pub hints : (i : ℕ) (c : Cell) (h : Hint) → cell_at pool i ≡ Some c → hint_of pool i ≡ Some h → (v : IsLive pool h) → LeadsUp s c.rank v.cell.rank
  pub fingers : (x : ℕ) (h : Hint) → IsCovered pool x → finger_of pool x ≡ Some h → (v : IsLive pool h) → (f : ListedEdge) × (IsIn f (chain s x) × (v.cell.rank ≡ f.rank))
  pub old : AreOld pool
