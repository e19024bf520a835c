-- What the passes over a tree's nodes give.
use Rattle.std.specs.Prelude.{◌≡◌, ◌≢◌, ◌↔◌, ◌==◌, ℕ, ◌<◌, ◌≤◌, ◌⊎◌, Bool, true, false, not, List, length, get_or, map, Option, Some, None, if◌then◌else◌}
use Rattle.hg_base.specs.Graph.{WeightedGraph, first_end, second_end, weight}
use Rattle.edge_laws.specs.Rank.{numbers}
use Rattle.tree_laws.specs.Tree.{ParentTree, parent, altitude}
use Rattle.tree_laws.specs.Levels.{IsTop}

-- j is the plateau of node i: the last node on its path that has its altitude
abbrev pub IsPlateau : ParentTree → ℕ → ℕ → Type 0
IsPlateau t i j = IsTop t (altitude t i) i j

-- the parent of node i has another altitude
abbrev pub ends_plateau : ParentTree → ℕ → Bool
ends_plateau t i = not (altitude t (parent t i) == altitude t i)

-- for each node its plateau
pub record ArePlateaus (t : ParentTree) (tops : List ℕ) : Type 0 where
  pub one_each : length tops ≡ length t.parents
  pub nodes : (i : ℕ) → i < length t.parents → get_or tops i 0 < length t.parents
  pub each : (i : ℕ) → i < length t.parents → IsPlateau t i (get_or tops i 0)

-- inner node i is lower than its parent
pub record IsDrop (t : ParentTree) (i : ℕ) : Type 0 where
  pub inner : t.leaves ≤ i
  pub node : i < length t.parents
  pub lower : altitude t i < altitude t (parent t i)

-- j is the plateau of the parent of a lower inner node
abbrev pub IsOverLower : ParentTree → ℕ → Type 0
IsOverLower t j = (i : ℕ) × (IsDrop t i × IsPlateau t (parent t i) j)

-- which nodes are plateaus over a lower inner node
pub record AreOverLower (t : ParentTree) (over : List Bool) : Type 0 where
  pub one_each : length over ≡ length t.parents
  pub each : (j : ℕ) → (get_or over j false ≡ true) ↔ IsOverLower t j

-- the key of leaf x is the plateau of its parent, where that is over no lower inner node, and else there is none
abbrev pub IsPlateauKey : ParentTree → ℕ → Option ℕ → Type 0
IsPlateauKey t x key = (j : ℕ) × (IsPlateau t (parent t x) j × (((key ≡ Some j) × (¬ IsOverLower t j)) ⊎ ((key ≡ None) × IsOverLower t j)))

-- for each of the first n leaves its key
pub record ArePlateauKeys (t : ParentTree) (n : ℕ) (keys : List (Option ℕ)) : Type 0 where
  pub one_each : length keys ≡ n
  pub each : (x : ℕ) → x < n → IsPlateauKey t x (get_or keys x None)

-- edge number e has two different ends, which are vertices
pub record HasTwoEnds (g : WeightedGraph) (e : ℕ) : Type 0 where
  pub first : first_end g e < g.n
  pub second : second_end g e < g.n
  pub apart : first_end g e ≢ second_end g e

-- the label of the first end, where its parent has the weight of the edge, and else 0
abbrev pub level_label : WeightedGraph → ParentTree → List ℕ → ℕ → ℕ
level_label g t vertices e = if altitude t (parent t (first_end g e)) == weight g e then get_or vertices (first_end g e) 0 else 0

-- the same for each edge
abbrev pub level_labels : WeightedGraph → ParentTree → List ℕ → List ℕ
level_labels g t vertices = map (level_label g t vertices) (numbers g)
