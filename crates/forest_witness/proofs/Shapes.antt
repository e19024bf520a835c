-- What the forest of a graph is, in the form in which the sum of its weights needs it.
use Rattle.std.proofs.Common.{◌≡◌, ℕ, ◌<◌, ◌≤◌, Bool, sym, subst, ap, arith, List, length, All}
use Rattle.std.specs.Prelude.{count_by}
use Rattle.std.proofs.lemmas.List.FromFn.{length-range_with_len}
use Rattle.std.proofs.lemmas.List.Sums.{length-filter, count_by-le-length}
use Rattle.hg_base.specs.Graph.{WeightedGraph, IsGraph}
use Rattle.edge_laws.specs.Rank.{numbers, ranked}
use Rattle.watershed_cut.specs.MinimumLabels.{numbered}
use Rattle.watershed_cut.specs.Forest.{is_forest, forest}
use Rattle.watershed_cut.specs.Rooted.{IsRooted, cost}
use Rattle.watershed_cut.proofs.GraphForest.{forest-rooted}
use Rattle.watershed_cut.proofs.LeastForest.{forest-least}

-- no forest that is rooted so weighs less
pub forest_least : (g : WeightedGraph) → IsGraph g → (f : List ℕ) → IsRooted g f → cost g (forest g) ≤ cost g f
forest_least g is f rooted = forest-least g is f rooted

-- the test of the forest's edges by number
abbrev in_forest : WeightedGraph → ℕ → Bool
in_forest g e = is_forest g.n (ranked g) (numbered g e)

-- its numbers are numbers of edges
pub forest_numbers : (g : WeightedGraph) → IsGraph g → (f : List ℕ) → f ≡ forest g → All (λ e. e < length g.edges) f
forest_numbers g is f same = subst (All (λ e. e < length g.edges)) (sym same) (forest-rooted g is).numbers

-- it has no more edges than the graph
pub forest_few : (g : WeightedGraph) → IsGraph g → (f : List ℕ) → f ≡ forest g → length f ≤ 4194304
forest_few g is f same =
    let long : length f ≡ length (forest g) = ap (λ (xs : List ℕ). length xs) same in
    let kept : length (forest g) ≡ count_by (in_forest g) (numbers g) = length-filter (in_forest g) (numbers g) in
    let less : count_by (in_forest g) (numbers g) ≤ length (numbers g) = count_by-le-length (in_forest g) (numbers g) in
    let all : length (numbers g) ≡ length g.edges = length-range_with_len 0 (length g.edges) in
    let few : length g.edges ≤ 4194304 = is.edges in
    omega (arith, long, kept, less, all, few)
