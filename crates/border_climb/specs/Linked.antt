-- What "stands for" says of the links: each points at the cell of the edge that comes next.
use Rattle.std.specs.Prelude.{◌≡◌, ◌≢◌, ℕ, suc, ◌<◌, ◌≤◌, ◌^◌, Option, Some, None}
use Rattle.edge_laws.specs.Edges.{ListedEdge, EdgeList, AreApart, joins, next}
use Rattle.hg_base.specs.Lists.{IsIn}
use Rattle.node_region.specs.Pool.{CellPool, IsCovered, cell_at, leaf_of}
use Rattle.node_region.specs.declared.cell.Cell.{Cell}

-- the number has a cell of this rank
pub record HasRank (pool : CellPool) (id rank : ℕ) : Type 0 where
  pub cell : Cell
  pub is : cell_at pool id ≡ Some cell
  pub has : cell.rank ≡ rank

-- the link leads to the cell of the edge, and nowhere where there is none
abbrev pub Points : CellPool → Option ℕ → Option ListedEdge → Type 0
Points pool None None = Unit {0}
Points pool None (Some f) = ⊥
Points pool (Some id) None = ⊥
Points pool (Some id) (Some f) = HasRank pool id f.rank

-- the cell is of a joining edge, and what stands above it is what comes next on that edge's chain
pub record IsCellOf (pool : CellPool) (s : EdgeList) (c : Cell) : Type 0 where
  pub edge : ListedEdge
  pub joins : IsIn edge (joins s)
  pub rank : c.rank ≡ edge.rank
  pub up : Points pool c.up (next s edge.u (suc edge.rank))

-- each place points at the first edge of its chain, each cell at the next after its own, and no two cells have one rank
pub record AreLinked (pool : CellPool) (s : EdgeList) : Type 0 where
  pub leafs : (x : ℕ) → IsCovered pool x → Points pool (leaf_of pool x) (next s x 0)
  pub cells : (id : ℕ) (c : Cell) → cell_at pool id ≡ Some c → IsCellOf pool s c
  pub alone : (i j : ℕ) (b c : Cell) → cell_at pool i ≡ Some b → cell_at pool j ≡ Some c → b.rank ≡ c.rank → i ≡ j

-- the same of the cells of rank l or more alone
pub record AreLinkedFrom (pool : CellPool) (s : EdgeList) (l : ℕ) : Type 0 where
  pub cells : (id : ℕ) (c : Cell) → cell_at pool id ≡ Some c → l ≤ c.rank → IsCellOf pool s c
  pub alone : (i j : ℕ) (b c : Cell) → cell_at pool i ≡ Some b → cell_at pool j ≡ Some c → b.rank ≡ c.rank → i ≡ j

-- the edges are between covered places, with different ends and different ranks of 32 bits
pub record AreBetween (pool : CellPool) (s : EdgeList) : Type 0 where
  pub first_ends : (e : ListedEdge) → IsIn e s → IsCovered pool e.u
  pub second_ends : (e : ListedEdge) → IsIn e s → IsCovered pool e.v
  pub two_ends : (e : ListedEdge) → IsIn e s → e.u ≢ e.v
  pub apart : AreApart s
  pub small : (e : ListedEdge) → IsIn e s → e.rank < 2 ^ 32
