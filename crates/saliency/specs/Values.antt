-- Saliencies as altitudes.
use Rattle.std.specs.Prelude.{◌≡◌, ℕ, ◌<◌, List, length, get_or}
use Rattle.hg_base.specs.Graph.{WeightedGraph, first_end, second_end}
use Rattle.tree_laws.specs.Tree.{ParentTree, altitude, IsLowestAbove}
use Rattle.edge_laws.specs.Saliency.{IsSaliency}
use Rattle.partition_tree.specs.Paths.{ShareRoot}

-- k is the altitude of the lowest common ancestor of a and b
abbrev pub IsLowestAltitude : ParentTree → ℕ → ℕ → ℕ → Type 0
IsLowestAltitude t a b k = (i : ℕ) × (IsLowestAbove t a b i × (altitude t i ≡ k))

-- the ends of each edge are below one root
abbrev pub EndsShareRoots : WeightedGraph → ParentTree → Type 0
EndsShareRoots g t = (e : ℕ) → e < length g.edges → ShareRoot t (first_end g e) (second_end g e)

-- each edge has the altitude of the lowest common ancestor of its ends
pub record AreLowestAltitudes (g : WeightedGraph) (t : ParentTree) (values : List ℕ) : Type 0 where
  pub one_each : length values ≡ length g.edges
  pub each : (e : ℕ) → e < length g.edges → IsLowestAltitude t (first_end g e) (second_end g e) (get_or values e 0)

-- each edge has its saliency: the least number k such that the edges of weight at most k join its ends
pub record AreSaliencies (g : WeightedGraph) (values : List ℕ) : Type 0 where
  pub one_each : length values ≡ length g.edges
  pub each : (e : ℕ) → e < length g.edges → IsSaliency g e (get_or values e 0)
