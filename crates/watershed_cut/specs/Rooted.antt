-- Forests rooted in the minima, and their cost (Cousty and others, Watershed Cuts, 2009).
use Rattle.std.specs.Prelude.{◌≡◌, ◌==◌, ℕ, ◌<◌, not, List, ◌++◌, length, map, All}
use Rattle.std.specs.List.{IsDistinct, sum_by}
use Rattle.hg_base.specs.Graph.{WeightedGraph, weight}
use Rattle.edge_laws.specs.Edges.{EdgeList, Joined}
use Rattle.hg_base.specs.Counting.{count_below}
use Rattle.edge_laws.specs.Rank.{ranked}
use Rattle.watershed_cut.specs.Minima.{IsMinimumEdge, InMinimum, SameMinimum}
use Rattle.watershed_cut.specs.MinimumTests.{minimum_edges, in_minimum}
use Rattle.watershed_cut.specs.MinimumLabels.{numbered}

-- the edges with these numbers, and the minimum edges
abbrev pub planted : WeightedGraph → List ℕ → EdgeList
planted g f = map (numbered g) f ++ minimum_edges (ranked g)

-- how many vertices are in no minimum
abbrev pub outside_count : WeightedGraph → ℕ
outside_count g = count_below (λ x. not (in_minimum g.n (ranked g) x)) g.n

-- A list of distinct edge numbers is a forest rooted in the minima: it has no minimum edge and is as long as there are
-- vertices in no minimum, and with the minimum edges it joins each vertex to exactly one minimum.
pub record IsRooted (g : WeightedGraph) (f : List ℕ) : Type 0 where
  pub numbers : All (λ e. e < length g.edges) f
  pub distinct : IsDistinct (λ a b. a == b) f
  pub outside : All (λ e. ¬ IsMinimumEdge (ranked g) (numbered g e)) f
  pub as_long : length f ≡ outside_count g
  pub reach : (x : ℕ) → x < g.n → (y : ℕ) × (InMinimum g.n (ranked g) y × Joined (planted g f) x y)
  pub one : (x y z : ℕ) → x < g.n → InMinimum g.n (ranked g) y → Joined (planted g f) x y → InMinimum g.n (ranked g) z → Joined (planted g f) x z →
      SameMinimum g.n (ranked g) y z

-- the sum of the weights
abbrev pub cost : WeightedGraph → List ℕ → ℕ
cost g f = sum_by (weight g) f
