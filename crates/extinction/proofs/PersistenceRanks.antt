-- The order of a list of numbers, ties by place, as the ranks of edges that weigh as much.
use Rattle.std.proofs.Common.{◌≡◌, ℕ, zero, suc, ◌<◌, ◌≤◌, Bool, refl, sym, ◌∙◌, ap, arith, List, [], ◌∷◌, length, get_or, map, count_by}
use Rattle.std.specs.List.{range_with_len}
use Rattle.std.proofs.lemmas.List.{length-map}
use Rattle.hg_base.specs.declared.graph.Edge.{Edge}
use Rattle.hg_base.specs.Graph.{WeightedGraph, weight}
use Rattle.edge_laws.specs.Rank.{numbers, comes_before, rank, number_at}
use Rattle.edge_laws.proofs.Ranks.{rank-below, rank-injective, number_at-rank, number_at-below, rank-number_at, weight-rises}
use Rattle.extinction.specs.HierarchicalWatershed.{comes_sooner, persistence_rank}

-- edges of these weights, in a graph of which only the weights matter
abbrev weighing : ℕ → Edge
weighing w = record { u = 0; v = 0; w = w }

abbrev pub weighed : List ℕ → WeightedGraph
weighed xs = record { n = 0; areas = []; edges = map weighing xs }

pub weighed-length : (xs : List ℕ) → length (weighed xs).edges ≡ length xs
weighed-length xs = length-map xs weighing

pub weighed-weight : (xs : List ℕ) (i : ℕ) → weight (weighed xs) i ≡ get_or xs i 0
weighed-weight [] i = refl
weighed-weight (x ∷ xs) zero = refl
weighed-weight (x ∷ xs) (suc i) = weighed-weight xs i

-- it is a rank
pub persistence_rank-rank : (xs : List ℕ) (i : ℕ) → persistence_rank xs i ≡ rank (weighed xs) i
persistence_rank-rank xs i =
    ap (λ (n : ℕ). count_by (comes_sooner xs i) (range_with_len 0 n)) (sym (weighed-length xs))
    ∙ ap (λ (test : ℕ → Bool). count_by test (numbers (weighed xs))) (λ k j. sooner j k)
  where
    sooner : (j : ℕ) → comes_sooner xs i j ≡ comes_before (weighed xs) i j
    sooner j = rw (weighed-weight xs i, weighed-weight xs j) refl

-- such ranks are below the length, and different
pub persistence_rank-below : (xs : List ℕ) (i : ℕ) → i < length xs → persistence_rank xs i < length xs
persistence_rank-below xs i h = let r = rank-below (weighed xs) i (omega (arith, weighed-length xs)) in omega (arith, r, persistence_rank-rank xs i, weighed-length xs)

pub persistence_rank-one : (xs : List ℕ) (i j : ℕ) → i < length xs → j < length xs → persistence_rank xs i ≡ persistence_rank xs j → i ≡ j
persistence_rank-one xs i j hi hj same =
    rank-injective (weighed xs) i j (omega (arith, weighed-length xs)) (omega (arith, weighed-length xs)) (sym (persistence_rank-rank xs i) ∙ same ∙ persistence_rank-rank xs j)

-- the number that has this rank
pub persistence_rank-number : (xs : List ℕ) (k : ℕ) → k < length xs → persistence_rank xs (number_at (weighed xs) k) ≡ k
persistence_rank-number xs k h = persistence_rank-rank xs (number_at (weighed xs) k) ∙ rank-number_at (weighed xs) k (omega (arith, weighed-length xs))

pub number-persistence_rank : (xs : List ℕ) (i : ℕ) → i < length xs → number_at (weighed xs) (persistence_rank xs i) ≡ i
number-persistence_rank xs i h = ap (number_at (weighed xs)) (persistence_rank-rank xs i) ∙ number_at-rank (weighed xs) i (omega (arith, weighed-length xs))

pub number-below : (xs : List ℕ) (k : ℕ) → k < length xs → number_at (weighed xs) k < length xs
number-below xs k h = let r = number_at-below (weighed xs) k (omega (arith, weighed-length xs)) in omega (arith, r, weighed-length xs)

-- a lower rank has no greater number
pub persistence_rank-rises : (xs : List ℕ) (i j : ℕ) → i < length xs → j < length xs → persistence_rank xs i ≤ persistence_rank xs j → get_or xs i 0 ≤ get_or xs j 0
persistence_rank-rises xs i j hi hj le =
    let a = number-persistence_rank xs i hi in
    let b = number-persistence_rank xs j hj in
    let r = weight-rises (weighed xs) (persistence_rank xs i) (persistence_rank xs j) le (let t = persistence_rank-below xs j hj in omega (arith, t, weighed-length xs)) in
    let wa : weight (weighed xs) (number_at (weighed xs) (persistence_rank xs i)) ≡ get_or xs i 0 = ap (weight (weighed xs)) a ∙ weighed-weight xs i in
    let wb : weight (weighed xs) (number_at (weighed xs) (persistence_rank xs j)) ≡ get_or xs j 0 = ap (weight (weighed xs)) b ∙ weighed-weight xs j in
    omega (arith, r, wa, wb)
