-- Edges by weight, who they are the first to join, and saliencies.
use Rattle.std.specs.Prelude.{ℕ, ◌<◌, ◌≤◌, filter, nat_le}
use Rattle.hg_base.specs.Graph.{WeightedGraph, first_end, second_end}
use Rattle.edge_laws.specs.Edges.{ListedEdge, EdgeList, Joined, below}
use Rattle.hg_base.specs.Lists.{IsIn}
use Rattle.edge_laws.specs.Rank.{ranked}

-- the edges of weight at most k
abbrev pub at_most : EdgeList → ℕ → EdgeList
at_most s k = filter (λ e. nat_le e.weight k) s

-- weights don't fall with the rank
abbrev pub AreByWeight : EdgeList → Type 0
AreByWeight s = (e f : ListedEdge) → IsIn e s → IsIn f s → e.rank < f.rank → e.weight ≤ f.weight

-- k is the least number such that the edges of weight at most k join a and b
pub record IsLeastJoining (s : EdgeList) (a b k : ℕ) : Type 0 where
  pub joins : Joined (at_most s k) a b
  pub least : (j : ℕ) → Joined (at_most s j) a b → k ≤ j

-- the saliency of edge e is k
abbrev pub IsSaliency : WeightedGraph → ℕ → ℕ → Type 0
IsSaliency g e k = IsLeastJoining (ranked g) (first_end g e) (second_end g e) k

-- the edge z of s is the first to join a and b: by it they are joined, and before it they aren't
pub record MeetFirst (s : EdgeList) (a b : ℕ) (z : ListedEdge) : Type 0 where
  pub member : IsIn z s
  pub behind : (k : ℕ) → z.rank < k → Joined (below s k) a b
  pub before : (k : ℕ) → Joined (below s k) a b → z.rank < k
