-- The ranks of a graph's edges: by weight, then by number.
use Rattle.std.specs.Prelude.{ℕ, ◌==◌, Bool, ◌&&◌, ◌||◌, List, length, map, count_by, find, unwrap_or, nat_lt}
use Rattle.std.specs.List.{range_with_len}
use Rattle.hg_base.specs.Graph.{WeightedGraph, first_end, second_end, weight}
use Rattle.edge_laws.specs.Edges.{ListedEdge, EdgeList, below}

-- the numbers of the edges
abbrev pub numbers : WeightedGraph → List ℕ
numbers g = range_with_len 0 (length g.edges)

-- edge f comes before edge e
abbrev pub comes_before : WeightedGraph → ℕ → ℕ → Bool
comes_before g e f = nat_lt (weight g f) (weight g e) || ((weight g f == weight g e) && nat_lt f e)

-- how many edges come before edge e
abbrev pub rank : WeightedGraph → ℕ → ℕ
rank g e = count_by (comes_before g e) (numbers g)

-- the number of the edge whose rank is k
abbrev pub number_at : WeightedGraph → ℕ → ℕ
number_at g k = unwrap_or (find (λ e. rank g e == k) (numbers g)) 0

-- edge number e, at rank k
abbrev pub listed : WeightedGraph → ℕ → ℕ → ListedEdge
listed g k e = record { rank = k; u = first_end g e; v = second_end g e; weight = weight g e; number = e }

-- the edges of the graph in order of rank
abbrev pub ranked : WeightedGraph → EdgeList
ranked g = map (λ k. listed g k (number_at g k)) (numbers g)

-- the edges of rank below k
abbrev pub front : WeightedGraph → ℕ → EdgeList
front g k = below (ranked g) k
