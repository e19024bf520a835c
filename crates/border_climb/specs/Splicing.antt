-- The states of a splice: the new edge's cell is put in, and the two chains above it are merged.
use Rattle.std.specs.Prelude.{◌≡◌, ◌≢◌, ℕ, suc, ◌<◌, ◌≤◌, ◌⊎◌, ◌||◌, true, false, ◌∷◌, Option, Some, None, IfSome}
use Rattle.std.specs.Option.{option_map_or}
use Rattle.edge_laws.specs.Edges.{ListedEdge, EdgeList, AreEnds, AreApart, Joined, joined, below, joins, chain, next}
use Rattle.hg_base.specs.Lists.{IsIn}
use Rattle.edge_laws.specs.Splice.{ComesAfter, IsRedundant}
use Rattle.edge_laws.specs.Saliency.{MeetFirst}
use Rattle.node_region.specs.Pool.{CellPool, IsPool, count, IsCovered, IsUsed, cell_at, leaf_of}
use Rattle.node_region.specs.declared.cell.Cell.{Cell}
use Rattle.border_climb.specs.Linked.{HasRank, Points, IsCellOf, AreLinked, AreBetween}
use Rattle.border_climb.specs.Notes.{AreNoted}
use Rattle.border_climb.specs.declared.given.Given.{Given}
use Rattle.border_climb.specs.declared.given.Given.TheVariants as answers

-- The last cell of rank below r on the chain of x: no cell where the chain has none. What comes next isn't below r.
pub record IsLastCell (pool : CellPool) (s : EdgeList) (x r id : ℕ) : Type 0 where
  pub edge : ListedEdge
  pub on_chain : IsIn edge (chain s x)
  pub seat : HasRank pool id edge.rank
  pub low : edge.rank < r
  pub last : ComesAfter (next s x (suc edge.rank)) r

abbrev pub IsLast : CellPool → EdgeList → ℕ → ℕ → Option ℕ → Type 0
IsLast pool s x r None = ComesAfter (next s x 0) r
IsLast pool s x r (Some id) = IsLastCell pool s x r id

-- t is the cell of a joining edge f, which is e or above it
pub record IsJoiningCell (pool : CellPool) (e : ListedEdge) (s : EdgeList) (t : ℕ) (f : ListedEdge) : Type 0 where
  pub seat : HasRank pool t f.rank
  pub joins : IsIn f (joins (e ∷ s))
  pub apart : AreApart (e ∷ s)
  pub above : e.rank ≤ f.rank

-- a and b are the ends of e, which no edges up to f join without e, and f is at the component of one of them
pub record AreUnjoinedEnds (e : ListedEdge) (s : EdgeList) (f : ListedEdge) (a b : ℕ) : Type 0 where
  pub are : AreEnds e a b
  pub unjoined : joined (below s (suc f.rank)) a b ≡ false
  pub at_end : (joined (below s (suc f.rank)) f.u a || joined (below s (suc f.rank)) f.u b) ≡ true

-- Below rank r the links are those of the list with e, as are those of the places; above it they are those of the list
-- without e. No two cells have one rank.
pub record AreLinkedAround (pool : CellPool) (e : ListedEdge) (s : EdgeList) (r : ℕ) : Type 0 where
  pub leafs : (x : ℕ) → IsCovered pool x → Points pool (leaf_of pool x) (next (e ∷ s) x 0)
  pub low : (i : ℕ) (c : Cell) → cell_at pool i ≡ Some c → c.rank < r → IsCellOf pool (e ∷ s) c
  pub high : (i : ℕ) (c : Cell) → cell_at pool i ≡ Some c → r < c.rank → IsCellOf pool s c
  pub alone : (i j : ℕ) (b c : Cell) → cell_at pool i ≡ Some b → cell_at pool j ≡ Some c → b.rank ≡ c.rank → i ≡ j

-- Two chains are being merged above e: up to the rank of cell t the links are those of the list with e, above it those
-- of the list without e. What comes next on the two chains stands at first and second, and t's own link is open.
pub record IsMerging (pool : CellPool) (e : ListedEdge) (s : EdgeList) (t : ℕ) (first second : Option ℕ) : Type 0 where
  pub edge : ListedEdge
  pub a : ℕ
  pub b : ℕ
  pub cell : IsJoiningCell pool e s t edge
  pub ends : AreUnjoinedEnds e s edge a b
  pub first_link : Points pool first (next s a (suc edge.rank))
  pub second_link : Points pool second (next s b (suc edge.rank))
  pub others : AreLinkedAround pool e s edge.rank

-- the numbers and the links of places stay
pub record KeepsLeafs (old new : CellPool) : Type 0 where
  pub covered : (x : ℕ) → IsCovered new x → IsCovered old x
  pub leafs : (x : ℕ) → leaf_of new x ≡ leaf_of old x

-- the cell of a number has another link
pub record IsRelinked (old new : CellPool) (id : ℕ) (up : Option ℕ) : Type 0 where
  pub kept : KeepsLeafs old new
  pub at : (c : Cell) → cell_at old id ≡ Some c → cell_at new id ≡ Some (record { rank = c.rank; up = up })
  pub others : (j : ℕ) → (j ≡ id → ⊥) → cell_at new j ≡ cell_at old j

-- a number has no cell any more
pub record IsDropped (old new : CellPool) (id : ℕ) : Type 0 where
  pub kept : KeepsLeafs old new
  pub at : cell_at new id ≡ None
  pub others : (j : ℕ) → (j ≡ id → ⊥) → cell_at new j ≡ cell_at old j

-- what stands above the last cell of a place's chain, or above the place itself
abbrev pub up_of : CellPool → ℕ → Option ℕ → Option ℕ
up_of pool place None = leaf_of pool place
up_of pool place (Some id) = option_map_or (λ c. c.up) (cell_at pool id) None

-- what stood above a place or one of its cells is now the new cell, exactly where it is the place a or b, or their last cell
pub record IsOpenedCell (old : CellPool) (first second : Option ℕ) (id j : ℕ) (c : Cell) : Type 0 where
  pub before : Cell
  pub is : cell_at old j ≡ Some before
  pub rank : c.rank ≡ before.rank
  pub up : ((c.up ≡ Some id) × ((first ≡ Some j) ⊎ (second ≡ Some j))) ⊎ ((c.up ≡ before.up) × ((first ≡ Some j → ⊥) × (second ≡ Some j → ⊥)))

-- A new cell of that rank stands above the last cells of two chains.
pub record IsOpened (old new : CellPool) (a b : ℕ) (first second : Option ℕ) (id rank : ℕ) : Type 0 where
  pub new_cell : cell_at new id ≡ Some (record { rank = rank; up = None })
  pub kept : (j : ℕ) (c : Cell) → cell_at old j ≡ Some c → HasRank new j c.rank
  pub cells : (j : ℕ) (c : Cell) → (j ≡ id → ⊥) → cell_at new j ≡ Some c → IsOpenedCell old first second id j c
  pub covered : (x : ℕ) → IsCovered new x → IsCovered old x
  pub leafs : (x : ℕ) → IsCovered new x →
      ((leaf_of new x ≡ Some id) × (((x ≡ a) × (first ≡ None)) ⊎ ((x ≡ b) × (second ≡ None)))) ⊎
      ((leaf_of new x ≡ leaf_of old x) × ((x ≡ a → first ≡ None → ⊥) × (x ≡ b → second ≡ None → ⊥)))

-- the numbers, the chunks and the room stay
pub record KeepsRange (old new : CellPool) : Type 0 where
  pub first : new.first ≡ old.first
  pub count : count new ≡ count old
  pub chunks : new.chunks ≡ old.chunks
  pub room : new.room ≡ old.room

-- the rank of a number's cell, or 0 where it has none
abbrev pub rank_of : CellPool → ℕ → ℕ
rank_of pool id = option_map_or (λ c. c.rank) (cell_at pool id) 0

-- two chains are being merged, and the notes are those of the list without e
pub record IsSeam (pool : CellPool) (e : ListedEdge) (s : EdgeList) (t : ℕ) (first second : Option ℕ) : Type 0 where
  pub merging : IsMerging pool e s t first second
  pub noted : AreNoted pool s

-- for some edge and list two chains are being merged
abbrev pub SomeSeam : CellPool → ℕ → Option ℕ → Option ℕ → Type 0
SomeSeam pool t first second = (e : ListedEdge) × ((s : EdgeList) × IsSeam pool e s t first second)

-- whatever is being merged before still is after a step
abbrev pub StepsTo : CellPool → ℕ → Option ℕ → Option ℕ → CellPool → ℕ → Option ℕ → Option ℕ → Type 0
StepsTo old t first second new u third fourth = (e : ListedEdge) (s : EdgeList) → IsSeam old e s t first second → IsSeam new e s u third fourth

-- what an answer says of an edge and a list
abbrev pub Tells : ListedEdge → EdgeList → Given → Type 0
Tells e s answers.Redundant = IsRedundant e s
Tells e s answers.Joined = ¬ IsRedundant e s × ¬ Joined s e.u e.v
Tells e s (answers.Replaced z) = ¬ IsRedundant e s × ((f : ListedEdge) × (MeetFirst s e.u e.v f × (f.rank ≡ z)))

-- the merge is done: the links are those of the list with e
pub record IsMerged (pool : CellPool) (e : ListedEdge) (s : EdgeList) (answer : Given) : Type 0 where
  pub links : AreLinked pool (e ∷ s)
  pub noted : AreNoted pool s
  pub told : Tells e s answer

abbrev pub EndsIn : CellPool → ℕ → Option ℕ → Option ℕ → CellPool → Given → Type 0
EndsIn old t first second new answer = (e : ListedEdge) (s : EdgeList) → IsSeam old e s t first second → IsMerged new e s answer

-- the links are those of the list, whose edges are between the pool's places and have other ranks
pub record IsLinkedList (pool : CellPool) (s : EdgeList) (rank : ℕ) : Type 0 where
  pub between : AreBetween pool s
  pub links : AreLinked pool s
  pub fresh : (f : ListedEdge) → IsIn f s → f.rank ≢ rank

-- the links are those of the list with e, and the answer tells what it did
pub record IsSpliced (pool : CellPool) (e : ListedEdge) (s : EdgeList) (answer : Given) : Type 0 where
  pub links : AreLinked pool (e ∷ s)
  pub told : Tells e s answer

-- the links are those of some list
abbrev pub SomeList : CellPool → ℕ → Type 0
SomeList pool rank = (s : EdgeList) × IsLinkedList pool s rank

-- a free number, and what is needed to put a new cell above two chains
pub record CanOpen (pool : CellPool) (a b : ℕ) (first second : Option ℕ) (id : ℕ) : Type 0 where
  pub pool_is : IsPool pool
  pub a_covered : IsCovered pool a
  pub b_covered : IsCovered pool b
  pub first_used : IfSome first (IsUsed pool)
  pub second_used : IfSome second (IsUsed pool)
  pub free : IsIn id pool.free
