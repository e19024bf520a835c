-- Component trees (Perret and others, Higra, 2019): the components of a graph's vertices up to each level, for a min
-- tree, or from each level on, for a max tree. Each vertex x has a value f x.
use Rattle.std.specs.Prelude.{◌≡◌, ◌≢◌, ℕ, ◌<◌, ◌≤◌, Bool, ◌&&◌, ◌⊎◌, List, length, filter, nat_le, slice_index, IsTrue}
use Rattle.edge_laws.specs.Edges.{EdgeList, component}
use Rattle.hg_base.specs.Lists.{IsIn}
use Rattle.component_tree.specs.declared.side.Side.{Side}
use Rattle.component_tree.specs.declared.side.Side.TheVariants.{Min, Max}

-- A component tree as lists: nodes 0 to leaves - 1 are the vertices, the others the components. Each node has a parent,
-- and a root is its own; each node has a level.
pub record ComponentLists : Type 0 where
  pub leaves : ℕ
  pub parents : List ℕ
  pub levels : List ℕ

-- the parent of node i, or 0 where there is no such node
abbrev pub parent_of : ComponentLists → ℕ → ℕ
parent_of tree i = slice_index tree.parents i

-- the level of node i, or 0 where there is no such node
abbrev pub level_of : ComponentLists → ℕ → ℕ
level_of tree i = slice_index tree.levels i

-- node i is a component, and no leaf
pub record IsComponentNode (tree : ComponentLists) (i : ℕ) : Type 0 where
  pub no_leaf : tree.leaves ≤ i
  pub within : i < length tree.parents

-- a value v is in at level t: at most t for a min tree, at least t for a max tree
abbrev pub is_in_at : Side → ℕ → ℕ → Bool
is_in_at Min t v = nat_le v t
is_in_at Max t v = nat_le t v

-- the edges both of whose ends are in at level t
abbrev pub inside : Side → (ℕ → ℕ) → EdgeList → ℕ → EdgeList
inside side f s t = filter (λ e. is_in_at side t (f e.u) && is_in_at side t (f e.v)) s

-- level t comes before level u: it is lesser for a min tree, greater for a max tree
abbrev pub ComesBefore : Side → ℕ → ℕ → Type 0
ComesBefore Min t u = t < u
ComesBefore Max t u = u < t

-- by level, then by least vertex
abbrev pub IsEarlier : Side → ℕ → ℕ → ℕ → ℕ → Type 0
IsEarlier side t x u y = ComesBefore side t u ⊎ ((t ≡ u) × (x < y))

-- each vertex of the second list is in the first
abbrev pub Includes : List ℕ → List ℕ → Type 0
Includes xs ys = (y : ℕ) → IsIn y ys → IsIn y xs

-- The nodes are the components of the vertices that are in at a level, for every level, each once. The edges s join
-- vertices below n.
pub record IsComponentTree (side : Side) (f : ℕ → ℕ) (n : ℕ) (s : EdgeList) (tree : ComponentLists) : Type 0 where
  pub leaves : tree.leaves ≡ n
  pub one_level_each : length tree.levels ≡ length tree.parents
  pub all_leaves : n ≤ length tree.parents
  -- the vertices of each node, rising: a component around some vertex that is in; each component is those of one node
  pub vertices : ℕ → List ℕ
  pub each_node : (i : ℕ) → IsComponentNode tree i → (t x : ℕ) × ((x < n) × (IsTrue (is_in_at side t (f x)) × (vertices i ≡ component n (inside side f s t) x)))
  pub each_component : (t x : ℕ) → x < n → IsTrue (is_in_at side t (f x)) → (i : ℕ) × (IsComponentNode tree i × (vertices i ≡ component n (inside side f s t) x))
  pub once : (i j : ℕ) → IsComponentNode tree i → IsComponentNode tree j → vertices i ≡ vertices j → i ≡ j
  -- the level of a node is the last value in it: the greatest for a min tree, the least for a max tree
  pub reached : (i : ℕ) → IsComponentNode tree i → (x : ℕ) × (IsIn x (vertices i) × (f x ≡ level_of tree i))
  pub last : (i x : ℕ) → IsComponentNode tree i → IsIn x (vertices i) → IsTrue (is_in_at side (level_of tree i) (f x))
  -- nodes are numbered by level, then by least vertex
  pub in_order : (i j : ℕ) → IsComponentNode tree i → IsComponentNode tree j → i < j →
      IsEarlier side (level_of tree i) (slice_index (vertices i) 0) (level_of tree j) (slice_index (vertices j) 0)
  -- a leaf has its vertex's value as level, and as parent the node of that level that has the vertex
  pub leaf_level : (x : ℕ) → x < n → level_of tree x ≡ f x
  pub leaf_parent : (x : ℕ) → x < n → IsComponentNode tree (parent_of tree x) × ((level_of tree (parent_of tree x) ≡ f x) × IsIn x (vertices (parent_of tree x)))
  -- the parent of another node is the node of least number after it that includes it, or itself where there is none
  pub parent_includes : (i : ℕ) → IsComponentNode tree i → parent_of tree i ≢ i →
      IsComponentNode tree (parent_of tree i) × ((i < parent_of tree i) × Includes (vertices (parent_of tree i)) (vertices i))
  pub parent_least : (i j : ℕ) → IsComponentNode tree i → IsComponentNode tree j → i < j → Includes (vertices j) (vertices i) →
      (parent_of tree i ≢ i) × (parent_of tree i ≤ j)
