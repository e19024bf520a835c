-- What the altitudes of the nodes of a tree are.
use Rattle.std.specs.Prelude.{◌≡◌, ℕ, ◌<◌, ◌≤◌, length}
use Rattle.edge_laws.specs.Edges.{ListedEdge, EdgeList, joins}
use Rattle.hg_base.specs.Lists.{IsIn}
use Rattle.tree_laws.specs.Tree.{ParentTree, altitude, IsAbove}

-- e is the joining edge of highest rank between leaves below node i
pub record IsLastJoining (t : ParentTree) (s : EdgeList) (i : ℕ) (e : ListedEdge) : Type 0 where
  pub joining : IsIn e (joins s)
  pub first : IsAbove t i e.u
  pub second : IsAbove t i e.v
  pub last : (f : ListedEdge) → IsIn f (joins s) → IsAbove t i f.u → IsAbove t i f.v → f.rank ≤ e.rank

-- a leaf has altitude 0, and each other node the weight of the joining edge of highest rank between its leaves
pub record HasAltitudes (t : ParentTree) (s : EdgeList) : Type 0 where
  pub leaves : (x : ℕ) → x < t.leaves → altitude t x ≡ 0
  pub inner : (i : ℕ) → t.leaves ≤ i → i < length t.parents → (e : ListedEdge) × (IsLastJoining t s i e × (altitude t i ≡ e.weight))
