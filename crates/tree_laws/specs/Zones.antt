-- Quasi-flat zones of a tree (Perret and others, Higra, 2019).
use Rattle.std.specs.Prelude.{◌≡◌, ◌↔◌, ℕ, suc, ◌==◌, ◌-◌, ◌<◌, ◌≤◌, Bool, not, ◌||◌, List, length, map, filter, find, nat_lt, nat_le, unwrap_or, slice_get, if◌then◌else◌}
use Rattle.std.specs.List.{range_with_len}
use Rattle.edge_laws.specs.Edges.{EdgeList, Joined}
use Rattle.hg_base.specs.Counting.{count_below}
use Rattle.tree_laws.specs.Tree.{ParentTree, parent, altitude, ancestor, IsAbove}
use Rattle.edge_laws.specs.Saliency.{at_most}

-- node i is a leaf, a root, or of another altitude than its parent
abbrev pub keeps : ParentTree → ℕ → Bool
keeps t i = nat_lt i t.leaves || ((parent t i == i) || not (altitude t i == altitude t (parent t i)))

-- the kept nodes in rising order
abbrev pub kept : ParentTree → List ℕ
kept t = filter (keeps t) (range_with_len 0 (length t.parents))

-- the new number of a kept node: how many kept nodes have a lesser number
abbrev pub zone_number : ParentTree → ℕ → ℕ
zone_number t i = count_below (keeps t) i

-- the proper ancestors of node i, the nearest first; after the root, the root again
abbrev pub ancestors : ParentTree → ℕ → List ℕ
ancestors t i = map (λ d. ancestor t (suc d) i) (range_with_len 0 (length t.parents))

-- the nearest kept proper ancestor of node i, which is i itself where it is a root
abbrev pub next_kept : ParentTree → ℕ → ℕ
next_kept t i = unwrap_or (find (keeps t) (ancestors t i)) i

-- the nearest kept node at or above node i
abbrev pub nearest : ParentTree → ℕ → ℕ
nearest t i = if keeps t i then i else next_kept t i

-- the number of the edge that made inner node i, or 0 where there is no such node
abbrev pub maker : ParentTree → ℕ → ℕ
maker t i = unwrap_or (slice_get t.makers (i - t.leaves)) 0

-- The zones of a tree: its kept nodes, each below the nearest kept one of its proper ancestors.
abbrev pub zones_of : ParentTree → ParentTree
zones_of t = record {
  leaves = t.leaves;
  parents = map (λ i. zone_number t (next_kept t i)) (kept t);
  altitudes = map (altitude t) (kept t);
  makers = map (maker t) (filter (nat_le t.leaves) (kept t));
}

-- the leaves below node i are the vertices that the edges of weight at most k join to x
abbrev pub HasZone : ParentTree → ℕ → EdgeList → ℕ → ℕ → ℕ → Type 0
HasZone z n s i k x = (y : ℕ) → y < n → (IsAbove z i y ↔ Joined (at_most s k) x y)

-- Each component of the edges of weight at most k, for every k, is the vertex set of exactly one node, and
-- each inner node's vertices are the component at its altitude.
pub record AreZones (z : ParentTree) (n : ℕ) (s : EdgeList) : Type 0 where
  pub each_component : (k x : ℕ) → x < n → (i : ℕ) × ((i < length z.parents) × HasZone z n s i k x)
  pub once : (k x i j : ℕ) → x < n → i < length z.parents → j < length z.parents → HasZone z n s i k x → HasZone z n s j k x → i ≡ j
  pub each_inner : (i : ℕ) → n ≤ i → i < length z.parents → (x : ℕ) × ((x < n) × HasZone z n s i (altitude z i) x)
