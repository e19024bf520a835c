-- The saliencies of a graph's edges, as numbers (Perret and others, Higra, 2019).
use Rattle.std.specs.Prelude.{ℕ, suc, List, map, find, unwrap_or}
use Rattle.std.specs.List.{range_with_len}
use Rattle.hg_base.specs.Graph.{WeightedGraph, first_end, second_end, weight}
use Rattle.edge_laws.specs.Edges.{joined}
use Rattle.edge_laws.specs.Rank.{numbers, ranked}
use Rattle.edge_laws.specs.Saliency.{at_most}

-- the least number k such that the edges of weight at most k join the ends of edge e; it's no more than its weight
abbrev pub saliency : WeightedGraph → ℕ → ℕ
saliency g e = unwrap_or (find (λ k. joined (at_most (ranked g) k) (first_end g e) (second_end g e)) (range_with_len 0 (suc (weight g e)))) 0

-- the saliency of each edge, by number
abbrev pub saliencies : WeightedGraph → List ℕ
saliencies g = map (saliency g) (numbers g)
