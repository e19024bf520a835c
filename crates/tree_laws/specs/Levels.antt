-- A tree cut at a level: which leaves share a node of low altitude, and what that has to do with the edges of low weight.
use Rattle.std.specs.Prelude.{◌≡◌, ◌↔◌, ℕ, ◌==◌, ◌<◌, ◌≤◌, ◌⊎◌, Bool, ◌&&◌, length, nat_le}
use Rattle.std.specs.List.{range_with_len, list_any}
use Rattle.edge_laws.specs.Edges.{EdgeList, Joined}
use Rattle.tree_laws.specs.Tree.{ParentTree, parent, altitude, ancestor, IsAbove}
use Rattle.edge_laws.specs.Saliency.{at_most}

-- each node's parent is a node of no lesser number
pub record IsClimbing (t : ParentTree) : Type 0 where
  pub rises : (i : ℕ) → i < length t.parents → i ≤ parent t i
  pub within : (i : ℕ) → i < length t.parents → parent t i < length t.parents

-- altitudes don't fall from child to parent
abbrev pub AltitudesRise : ParentTree → Type 0
AltitudesRise t = (i : ℕ) → i < length t.parents → altitude t i ≤ altitude t (parent t i)

-- some node of altitude at most `level` is above both x and y
abbrev pub Shares : ParentTree → ℕ → ℕ → ℕ → Type 0
Shares t level x y = (i : ℕ) × ((altitude t i ≤ level) × (IsAbove t i x × IsAbove t i y))

-- the test of `IsAbove`, where a path has no more links than there are nodes
abbrev pub is_above : ParentTree → ℕ → ℕ → Bool
is_above t i x = list_any (λ d. ancestor t d x == i) (range_with_len 0 (length t.parents))

-- the test of `Shares`
abbrev pub shares : ParentTree → ℕ → ℕ → ℕ → Bool
shares t level x y = list_any (λ i. nat_le (altitude t i) level && (is_above t i x && is_above t i y)) (range_with_len 0 (length t.parents))

-- j is the last node up to the level on the path from i up
pub record IsTop (t : ParentTree) (level i j : ℕ) : Type 0 where
  pub above : IsAbove t j i
  pub low : altitude t j ≤ level
  pub last : (parent t j ≡ j) ⊎ (level < altitude t (parent t j))

-- What the nodes of a tree say of the edges of weight at most k, for every k.
pub record IsLevelTree (t : ParentTree) (s : EdgeList) : Type 0 where
  -- the leaves below a node are joined by edges that weigh no more than its altitude
  pub joined_below : (i x y : ℕ) → x < t.leaves → y < t.leaves → IsAbove t i x → IsAbove t i y → Joined (at_most s (altitude t i)) x y
  -- a node of altitude at most k is above all that the edges of weight at most k join to x
  pub one_above : (k x : ℕ) → x < t.leaves → (i : ℕ) × ((altitude t i ≤ k) × ((y : ℕ) → y < t.leaves → Joined (at_most s k) x y → IsAbove t i y))
  -- each node is above a leaf
  pub some_leaf : (i : ℕ) → i < length t.parents → (x : ℕ) × ((x < t.leaves) × IsAbove t i x)
  -- no two nodes are above the same leaves
  pub once : (i j : ℕ) → i < length t.parents → j < length t.parents → ((y : ℕ) → y < t.leaves → (IsAbove t i y ↔ IsAbove t j y)) → i ≡ j
