-- Ranks and edge numbers stand in one-to-one correspondence.
use Rattle.std.proofs.Common.{◌≡◌, ℕ, ◌<◌, ◌≤◌, ◌==◌, inl, inr, Bool, true, false, ◌&&◌, ◌||◌, length, get_or, unwrap_or, nat_lt, refl, ap, ◌∙◌, arith}
use Rattle.std.specs.List.{position_or_len}
use Rattle.std.proofs.lemmas.Bool.Decides.{nat_tests}
use Rattle.std.proofs.lemmas.Bool.{eqb-true, eq-eqb, eqb-false, ne_eqb, cases_lt, lt-ltb, or_left}
use Rattle.std.proofs.lemmas.List.{get_or_past}
use Rattle.std.proofs.lemmas.List.FromFn.{length-range_with_len, get_or-range_with_len}
use Rattle.std.proofs.lemmas.List.Folds.{find_at}
use Rattle.std.proofs.lemmas.List.Sums.{count_by-le-length, position_or_len_is, passes_at_first, fails_before_first}
use Rattle.std.proofs.lemmas.Option.{unwrap_or-slice_get}
use Rattle.hg_base.specs.Graph.{WeightedGraph, weight}
use Rattle.edge_laws.specs.Rank.{numbers, comes_before, rank, number_at}
use Rattle.hg_base.proofs.CountBy.{count_by-lt}
use Rattle.hg_base.proofs.Pigeons.{misses_none}

-- what "before" is on weights and numbers: f of weight v comes before e of weight w
abbrev earlier : ℕ → ℕ → ℕ → ℕ → Bool
earlier v f w e = nat_lt v w || ((v == w) && nat_lt f e)

earlier-trans : (u d v f w e : ℕ) → earlier u d v f ≡ true → earlier v f w e ≡ true → earlier u d w e ≡ true
earlier-trans u d v f w e a b = grind (arith, nat_tests)

earlier-irrefl : (w e : ℕ) → earlier w e w e ≡ false
earlier-irrefl w e = grind (arith, nat_tests)

earlier-total : (v f w e : ℕ) → earlier v f w e ≡ false → earlier w e v f ≡ false → e ≡ f
earlier-total v f w e a b = grind (arith, nat_tests)

-- the edge numbers, by place
pub get_or-numbers : (g : WeightedGraph) (e d : ℕ) → e < length g.edges → get_or (numbers g) e d ≡ e
get_or-numbers g e d h = get_or-range_with_len 0 (length g.edges) e d h ∙ omega arith

-- an edge that comes before another has a lower rank
pub rank-lt : (g : WeightedGraph) (e f : ℕ) → f < length g.edges → comes_before g e f ≡ true → rank g f < rank g e
rank-lt g e f h before =
    let at = get_or-numbers g f 0 h in
    let within : f < length (numbers g) = rw length-range_with_len h in
    count_by-lt (comes_before g f) (comes_before g e) (λ x p. earlier-trans (weight g x) x (weight g f) f (weight g e) e p before) (numbers g) f 0 within
    (rw at (earlier-irrefl (weight g f) f)) (rw at before)

-- a rank is below the number of edges
pub rank-below : (g : WeightedGraph) (e : ℕ) → e < length g.edges → rank g e < length g.edges
rank-below g e h =
    let at = get_or-numbers g e 0 h in
    let within : e < length (numbers g) = rw length-range_with_len h in
    let fewer = count_by-lt (comes_before g e) (λ _. true) (λ _ _. refl) (numbers g) e 0 within (rw at (earlier-irrefl (weight g e) e)) refl in
    let all = count_by-le-length (λ _. true) (numbers g) in
    let long = length-range_with_len 0 (length g.edges) in
    omega (arith, fewer, all, long)

-- different edges have different ranks
pub rank-injective : (g : WeightedGraph) (e f : ℕ) → e < length g.edges → f < length g.edges → rank g e ≡ rank g f → e ≡ f
rank-injective g e f he hf same = by_tests (comes_before g e f) (comes_before g f e) refl refl
  where
    by_tests : (a b : Bool) → comes_before g e f ≡ a → comes_before g f e ≡ b → e ≡ f
    by_tests true b p q = let less = rank-lt g e f hf p in absurd (omega (arith, less, same))
    by_tests false true p q = let less = rank-lt g f e he q in absurd (omega (arith, less, same))
    by_tests false false p q = earlier-total (weight g f) f (weight g e) e p q

-- the place at which the search for the edge of rank k stops
abbrev place_of : WeightedGraph → ℕ → ℕ
place_of g k = position_or_len (λ e. rank g e == k) (numbers g)

number_at-is : (g : WeightedGraph) (k : ℕ) → number_at g k ≡ get_or (numbers g) (place_of g k) 0
number_at-is g k = ap (λ o. unwrap_or o 0) (find_at (λ e. rank g e == k) (numbers g)) ∙ unwrap_or-slice_get (numbers g) (place_of g k) 0

-- the edge at the rank of e is e
pub number_at-rank : (g : WeightedGraph) (e : ℕ) → e < length g.edges → number_at g (rank g e) ≡ e
number_at-rank g e h =
    let long = length-range_with_len 0 (length g.edges) in
    let others : (f : ℕ) → f < e → (rank g (get_or (numbers g) f 0) == rank g e) ≡ false = λ f l.
    rw (get_or-numbers g f 0 (omega arith)) (ne_eqb (rank g f) (rank g e) (λ same. let equal = rank-injective g f e (omega arith) h same in omega arith)) in
    let here : e < length (numbers g) → (rank g (get_or (numbers g) e 0) == rank g e) ≡ true = λ _. rw (get_or-numbers g e 0 h) (eq-eqb (rank g e) (rank g e) refl) in
    let stops : place_of g (rank g e) ≡ e = position_or_len_is (λ e'. rank g e' == rank g e) (numbers g) e 0 (omega (arith, long)) others here in
    number_at-is g (rank g e) ∙ rw stops (get_or-numbers g e 0 h)

-- the number at a rank is that of an edge, where there are edges
pub number_at-below : (g : WeightedGraph) (k : ℕ) → 0 < length g.edges → number_at g k < length g.edges
number_at-below g k some = rw (number_at-is g k) (elim (cases_lt (place_of g k) (length g.edges)) [
  | inl found ↦ rw (get_or-numbers g (place_of g k) 0 found) found
  | inr past ↦
      let long = length-range_with_len 0 (length g.edges) in
      rw (get_or_past (numbers g) (place_of g k) 0 (omega (arith, past, long))) some
])

-- the rank of the edge at rank k is k
pub rank-number_at : (g : WeightedGraph) (k : ℕ) → k < length g.edges → rank g (number_at g k) ≡ k
rank-number_at g k h =
    let long = length-range_with_len 0 (length g.edges) in
    rw (number_at-is g k) (elim (cases_lt (place_of g k) (length g.edges)) [
      | inl found ↦ eqb-true (rank g (get_or (numbers g) (place_of g k) 0)) k (passes_at_first (λ e. rank g e == k) (numbers g) 0 (omega (arith, found, long)))
      | inr past ↦ absurd (misses_none (length g.edges) (rank g) (rank-below g) (rank-injective g) k h (λ e l same.
          let off = fails_before_first (λ e'. rank g e' == k) (numbers g) e 0 (omega (arith, past, l)) in
          eqb-false (rank g e) k (rw (get_or-numbers g e 0 l) at off) same))
    ])

-- a lower rank has no greater weight
pub weight-rises : (g : WeightedGraph) (i j : ℕ) → i ≤ j → j < length g.edges → weight g (number_at g i) ≤ weight g (number_at g j)
weight-rises g i j up h = elim (cases_lt (weight g (number_at g j)) (weight g (number_at g i))) [
  | inl lighter ↦
      let before : comes_before g (number_at g i) (number_at g j) ≡ true = or_left _ _ (lt-ltb (weight g (number_at g j)) (weight g (number_at g i)) lighter) in
      let less = rank-lt g (number_at g i) (number_at g j) (number_at-below g j (omega arith)) before in
      absurd (omega (arith, less, rank-number_at g i (omega arith), rank-number_at g j h))
  | inr rises ↦ rises
]
