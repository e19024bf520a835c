-- The binary partition tree by altitude of an edge list, its lowest common ancestors, and what it has to do with the components of the fronts.
use Rattle.std.specs.Prelude.{◌≡◌, ◌↔◌, ℕ, zero, suc, ◌+◌, ◌<◌, List, ◌++◌, length, map, replicate, Option, Some, None, unwrap_or, slice_get, ◌≤◌}
use Rattle.std.specs.List.{range_with_len}
use Rattle.hg_base.specs.Graph.{WeightedGraph}
use Rattle.edge_laws.specs.Edges.{ListedEdge, EdgeList, Joined, below, joins, next}
use Rattle.hg_base.specs.Lists.{IsIn}
use Rattle.edge_laws.specs.Rank.{ranked}

-- A tree as a list of parents: nodes 0 to leaves - 1 are the leaves, and a root is its own parent.
-- Each node has an altitude, and each inner node the number of the edge that made it.
pub record ParentTree : Type 0 where
  pub leaves : ℕ
  pub parents : List ℕ
  pub altitudes : List ℕ
  pub makers : List ℕ

-- the parent of node i, or i where there is no such node
abbrev pub parent : ParentTree → ℕ → ℕ
parent t i = unwrap_or (slice_get t.parents i) i

-- the altitude of node i, or 0 where there is no such node
abbrev pub altitude : ParentTree → ℕ → ℕ
altitude t i = unwrap_or (slice_get t.altitudes i) 0

-- the node that d links up from i
abbrev pub ancestor : ParentTree → ℕ → ℕ → ℕ
ancestor t zero i = i
ancestor t (suc d) i = parent t (ancestor t d i)

-- node i is on the path from x up
abbrev pub IsAbove : ParentTree → ℕ → ℕ → Type 0
IsAbove t i x = (d : ℕ) × (ancestor t d x ≡ i)

-- how many joining edges have a lower rank than e
abbrev pub place : EdgeList → ListedEdge → ℕ
place s e = length (below (joins s) e.rank)

-- the node that the edge makes, or i where there is no edge
abbrev pub node_or : ℕ → EdgeList → ℕ → Option ListedEdge → ℕ
node_or n s i None = i
node_or n s i (Some e) = n + place s e

-- The tree of an edge list over n vertices: one inner node for each joining edge, in order of rank. The parent
-- of a leaf is made by the first edge of its chain, and that of an inner node by the edge after its own.
abbrev pub tree_of : ℕ → EdgeList → ParentTree
tree_of n s = record {
  leaves = n;
  parents = map (λ x. node_or n s x (next s x 0)) (range_with_len 0 n) ++ map (λ e. node_or n s (n + place s e) (next s e.u (suc e.rank))) (joins s);
  altitudes = replicate n 0 ++ map (λ e. e.weight) (joins s);
  makers = map (λ e. e.number) (joins s);
}

-- the tree of a graph
abbrev pub graph_tree : WeightedGraph → ParentTree
graph_tree g = tree_of g.n (ranked g)

-- the leaves below node i are the vertices that the edges of rank below k join to x
abbrev pub HasComponent : ParentTree → ℕ → EdgeList → ℕ → ℕ → ℕ → Type 0
HasComponent t n s i k x = (y : ℕ) → y < n → (IsAbove t i y ↔ Joined (below s k) x y)

-- The vertex sets of the nodes are exactly the components of the fronts, each once.
pub record IsFrontTree (t : ParentTree) (n : ℕ) (s : EdgeList) : Type 0 where
  pub each_component : (k x : ℕ) → x < n → (i : ℕ) × ((i < length t.parents) × HasComponent t n s i k x)
  pub once : (k x i j : ℕ) → x < n → i < length t.parents → j < length t.parents → HasComponent t n s i k x → HasComponent t n s j k x → i ≡ j
  pub each_node : (i : ℕ) → i < length t.parents → (k : ℕ) × ((x : ℕ) × ((x < n) × HasComponent t n s i k x))

-- the listed numbers are exactly the leaves below node i
abbrev pub AreLeavesBelow : ParentTree → ℕ → List ℕ → Type 0
AreLeavesBelow t i leaves = (y : ℕ) → (IsIn y leaves ↔ ((y < t.leaves) × IsAbove t i y))

-- i is the node of least number above both a and b
pub record IsLowestAbove (t : ParentTree) (a b i : ℕ) : Type 0 where
  pub first : IsAbove t i a
  pub second : IsAbove t i b
  pub lowest : (j : ℕ) → IsAbove t j a → IsAbove t j b → i ≤ j
