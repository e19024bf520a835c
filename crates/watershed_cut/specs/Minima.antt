-- Minima of an edge list over the vertices 0 to n - 1 (Cousty, Bertrand, Najman and Couprie, Watershed Cuts, 2009).
use Rattle.std.specs.Prelude.{◌≡◌, ◌==◌, ℕ, ◌<◌, ◌≤◌, ◌⊎◌, filter}
use Rattle.edge_laws.specs.Edges.{ListedEdge, EdgeList, Joined}
use Rattle.hg_base.specs.Lists.{IsIn}

-- the edges of weight k
abbrev pub level : EdgeList → ℕ → EdgeList
level s k = filter (λ e. e.weight == k) s

-- x is an end of e
abbrev pub IsEnd : ℕ → ListedEdge → Type 0
IsEnd x e = (e.u ≡ x) ⊎ (e.v ≡ x)

-- e is a minimum edge: no vertex that the edges of its weight join to its ends has a lesser edge
pub record IsMinimumEdge (s : EdgeList) (e : ListedEdge) : Type 0 where
  pub member : IsIn e s
  pub lowest : (x y : ℕ) (f : ListedEdge) → IsEnd x e → Joined (level s e.weight) x y → IsIn f s → IsEnd y f → e.weight ≤ f.weight

-- no edge has the end x
abbrev pub HasNoEdge : EdgeList → ℕ → Type 0
HasNoEdge s x = (e : ListedEdge) → IsIn e s → ¬ IsEnd x e

-- vertex x is in a minimum: it has no edge, or is an end of a minimum edge
pub record InMinimum (n : ℕ) (s : EdgeList) (x : ℕ) : Type 0 where
  pub vertex : x < n
  pub either : HasNoEdge s x ⊎ ((e : ListedEdge) × (IsMinimumEdge s e × IsEnd x e))

-- x and y are in one minimum: they are one, or the edges of a minimum edge's weight at x join them
pub record SameMinimum (n : ℕ) (s : EdgeList) (x y : ℕ) : Type 0 where
  pub first : InMinimum n s x
  pub second : InMinimum n s y
  pub joined : (x ≡ y) ⊎ ((e : ListedEdge) × ((IsMinimumEdge s e × IsEnd x e) × Joined (level s e.weight) x y))

-- x is the head of its minimum: the least vertex in it
pub record IsHead (n : ℕ) (s : EdgeList) (x : ℕ) : Type 0 where
  pub member : InMinimum n s x
  pub least : (y : ℕ) → SameMinimum n s x y → x ≤ y
