-- The keys by which the edges of a graph are sorted.
use Rattle.std.specs.Prelude.{ℕ, List, map}
use Rattle.std.specs.List.Sorted.{IsSortedByKey}
use Rattle.std.specs.Ordering.{nat_cmp}
use Rattle.hg_base.specs.Graph.{WeightedGraph, weight}
use Rattle.edge_laws.specs.Rank.{numbers, number_at}
use Rattle.edge_order.specs.declared.key.Key.{Key}

-- the key of edge number e
abbrev pub key : WeightedGraph → ℕ → ℕ × ℕ
key g e = (weight g e, e)

-- the keys by number
abbrev pub keys_of : WeightedGraph → List (ℕ × ℕ)
keys_of g = map (key g) (numbers g)

-- the keys by rank
abbrev pub sorted_keys_of : WeightedGraph → List (ℕ × ℕ)
sorted_keys_of g = map (λ k. key g (number_at g k)) (numbers g)

-- the packed keys don't fall
abbrev pub AreRising : List Key → Type 0
AreRising keys = IsSortedByKey (λ (k : Key). k.packed) nat_cmp keys
