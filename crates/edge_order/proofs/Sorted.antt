-- A sort of the keys puts the key of the edge of rank k at place k.
use Rattle.std.proofs.Common.{◌≡◌, ℕ, ◌+◌, ◌<◌, ◌≤◌, ◌==◌, ◌⊎◌, inl, inr, Bool, true, false, cond, ◌&&◌, ◌||◌, List, length, get_or, count_by, nat_lt, refl, sym, ap, ◌∙◌, subst, arith}
use Rattle.std.specs.Prelude.{IsPermutation, IsSorted}
use Rattle.std.specs.List.{swap}
use Rattle.std.specs.Ordering.{nat_cmp, ordering_then, is_lt}
use Rattle.std.specs.declared.cmp.Ordering.{Ordering}
use Rattle.std.specs.declared.cmp.Ordering.TheVariants.{Less, Equal, Greater}
use Rattle.std.proofs.lemmas.Cmp.{nat_cmp_total, on_total, then_total}
use Rattle.std.proofs.lemmas.Bool.{cases_Bool, cases_eq}
use Rattle.std.proofs.lemmas.Bool.Decides.{nat_tests}
use Rattle.std.proofs.lemmas.List.{get_or_default}
use Rattle.std.proofs.lemmas.List.FromFn.{length-map-range_with_len, get_or-map-range_with_len, fill_by_all}
use Rattle.std.proofs.lemmas.List.Folds.{fold-map}
use Rattle.std.proofs.lemmas.List.Edits.{swapped_from_swap, length-swap}
use Rattle.std.proofs.lemmas.List.Sorted.{IsPermutation-keeps, IsPermutation-sym, Contains-permutation, sum_by-IsPermutation, length_permutation, sorted_far, ranks_by}
use Rattle.hg_base.specs.Graph.{WeightedGraph, weight}
use Rattle.edge_laws.specs.Rank.{numbers, comes_before, rank, number_at}
use Rattle.edge_order.specs.Tables.{key, keys_of, sorted_keys_of}
use Rattle.hg_base.proofs.CountBy.{count_by-is}
use Rattle.edge_laws.proofs.Ranks.{number_at-rank}

-- the order of keys: by weight, then by number
abbrev pub key_cmp : ℕ × ℕ → ℕ × ℕ → Ordering
key_cmp x y = ordering_then (nat_cmp x.0 y.0) (nat_cmp x.1 y.1)

abbrev pub key_lt : ℕ × ℕ → ℕ × ℕ → Bool
key_lt x y = is_lt (key_cmp x y)

-- the sort's test is the test of "comes before"
pub tests_agree : (l e k f : Bool) → is_lt (ordering_then (cond l Less (cond e Equal Greater)) (cond k Less (cond f Equal Greater))) ≡ (l || (e && k))
tests_agree true e k f = refl
tests_agree false true true f = refl
tests_agree false true false true = refl
tests_agree false true false false = refl
tests_agree false false k f = refl

before-key_lt : (g : WeightedGraph) (e f : ℕ) → comes_before g e f ≡ key_lt (key g f) (key g e)
before-key_lt g e f = sym (tests_agree (nat_lt (weight g f) (weight g e)) (weight g f == weight g e) (nat_lt f e) (f == e))

-- the rank of an edge counts the lower keys, in whatever order they stand
rank-counts : (g : WeightedGraph) (keys : List (ℕ × ℕ)) → IsPermutation (keys_of g) keys → (e : ℕ) → count_by (λ y. key_lt y (key g e)) keys ≡ rank g e
rank-counts g keys same e =
    sum_by-IsPermutation (λ y. cond (key_lt y (key g e)) 1 0) (keys_of g) keys same
    ∙ fold-map (λ a y. a + cond (key_lt y (key g e)) 1 0) (key g) 0 (numbers g)
    ∙ sym (ap (λ (test : ℕ → Bool). count_by test (numbers g)) (λ i f. before-key_lt g e f i))

-- no element stands at two places
abbrev AreDistinct : List (ℕ × ℕ) → Type 0
AreDistinct xs = (i j : ℕ) (d : ℕ × ℕ) → i < length xs → j < length xs → get_or xs i d ≡ get_or xs j d → i ≡ j

keys-distinct : (g : WeightedGraph) → AreDistinct (keys_of g)
keys-distinct g i j d hi hj same =
    let long = length-map-range_with_len (key g) 0 (length g.edges) in
    let at_i = get_or-map-range_with_len (key g) 0 (length g.edges) i i d (omega (arith, long, hi)) (omega arith) in
    let at_j = get_or-map-range_with_len (key g) 0 (length g.edges) j j d (omega (arith, long, hj)) (omega arith) in
    ap (λ (p : ℕ × ℕ). p.1) (sym at_i ∙ same ∙ at_j)

-- where the element at place i of an exchange of places a and b came from
abbrev Came : ℕ → ℕ → ℕ → ℕ → Type 0
Came a b i from = ((i ≡ a) × (from ≡ b)) ⊎ (((i ≡ b) × (from ≡ a)) ⊎ ((i ≡ a → ⊥) × (i ≡ b → ⊥) × (from ≡ i)))

came-back : (a b i j k : ℕ) → Came a b i k → Came a b j k → i ≡ j
came-back a b i j k p q = grind arith

came_from : (xs : List (ℕ × ℕ)) (a b : ℕ) (d : ℕ × ℕ) → a < length xs → b < length xs → (i : ℕ) → i < length xs → (k : ℕ) × ((k < length xs) × (get_or (swap xs a b) i d ≡ get_or xs k d) × Came a b i k)
came_from xs a b d ha hb i hi =
    let moves = swapped_from_swap xs (swap xs a b) a b d ha hb refl in
    elim (cases_eq i a) [
      | inl at ↦ (b, (hb, rw at moves.0, inl (at, refl)))
      | inr off ↦ elim (cases_eq i b) [
        | inl at ↦ (a, (ha, rw at moves.1, inr (inl (at, refl))))
        | inr off' ↦ (i, (hi, moves.2 i off off', inr (inr (off, off', refl))))
      ]
    ]

swap-distinct : (xs : List (ℕ × ℕ)) (a b : ℕ) → a < length xs → b < length xs → AreDistinct xs → AreDistinct (swap xs a b)
swap-distinct xs a b ha hb apart i j d hi hj same =
    let long = length-swap xs a b in
    let from_i = came_from xs a b d ha hb i (omega (arith, long, hi)) in
    let from_j = came_from xs a b d ha hb j (omega (arith, long, hj)) in
    let one = apart from_i.0 from_j.0 d from_i.1.0 from_j.1.0 (sym from_i.1.1 ∙ same ∙ from_j.1.1) in
    came-back a b i j from_i.0 from_i.1.2 (subst (Came a b j) (sym one) from_j.1.2)

-- two weights and numbers of which neither is earlier are the same
neither : (v f w e : ℕ) → (nat_lt v w || ((v == w) && nat_lt f e)) ≡ false → (nat_lt w v || ((w == v) && nat_lt e f)) ≡ false → (v ≡ w) × (f ≡ e)
neither v f w e a b = (grind (arith, nat_tests), grind (arith, nat_tests))

-- two keys of which neither is lower are one
key_lt-total : (x y : ℕ × ℕ) → key_lt x y ≡ false → key_lt y x ≡ false → x ≡ y
key_lt-total x y a b =
    let same = neither x.0 x.1 y.0 y.1
    (sym (tests_agree (nat_lt x.0 y.0) (x.0 == y.0) (nat_lt x.1 y.1) (x.1 == y.1)) ∙ a)
    (sym (tests_agree (nat_lt y.0 x.0) (y.0 == x.0) (nat_lt y.1 x.1) (y.1 == x.1)) ∙ b) in
    λ i. (same.0 i, same.1 i)

key_lt-far : (keys : List (ℕ × ℕ)) → IsSorted key_cmp keys → (i j : ℕ) (d : ℕ × ℕ) → i ≤ j → j < length keys → key_lt (get_or keys j d) (get_or keys i d) ≡ false
key_lt-far keys sorted = sorted_far key_lt (ranks_by (then_total (on_total (λ p. p.0) nat_cmp_total) (on_total (λ p. p.1) nat_cmp_total)) (λ x. x)) keys sorted

-- in sorted keys that are distinct, those below the one at place k are those before it
lower-count : (keys : List (ℕ × ℕ)) → AreDistinct keys → IsSorted key_cmp keys → (k : ℕ) (d : ℕ × ℕ) → k < length keys → count_by (λ y. key_lt y (get_or keys k d)) keys ≡ k
lower-count keys apart sorted k d h =
    count_by-is (λ y. key_lt y (get_or keys k d)) keys k d (omega arith)
    (λ j l. elim (cases_Bool (key_lt (get_or keys j d) (get_or keys k d))) [
      | inl lower ↦ lower
      | inr not_lower ↦
          let one = key_lt-total (get_or keys j d) (get_or keys k d) not_lower (key_lt-far keys sorted j k d (omega arith) h) in
          let place = apart j k d (omega arith) h one in
          absurd (omega arith)
    ])
    (λ j from l. key_lt-far keys sorted k j d from l)

-- at place k of the sorted keys stands the key of the edge of rank k
sorted_at : (g : WeightedGraph) (keys : List (ℕ × ℕ)) → IsPermutation (keys_of g) keys → IsSorted key_cmp keys → (k : ℕ) (d : ℕ × ℕ) → k < length keys → get_or keys k d ≡ key g (number_at g k)
sorted_at g keys same sorted k d h =
    let x : ℕ × ℕ = get_or keys k d in
    let apart = IsPermutation-keeps (keys_of g) AreDistinct (keys-distinct g) swap-distinct keys same in
    let found = Contains-permutation keys (keys_of g) x (IsPermutation-sym (keys_of g) keys same) (k, h, get_or_default keys k x d h) in
    let e = found.0 in
    let within : e < length g.edges = omega (arith, found.1, length-map-range_with_len (key g) 0 (length g.edges)) in
    let is_key : x ≡ key g e = sym found.2 ∙ get_or-map-range_with_len (key g) 0 (length g.edges) e e x within (omega arith) in
    let its_rank : rank g e ≡ k = sym (rank-counts g keys same e) ∙ ap (λ (z : ℕ × ℕ). count_by (λ y. key_lt y z) keys) (sym is_key) ∙ lower-count keys apart sorted k d h in
    is_key ∙ ap (key g) (sym (number_at-rank g e within) ∙ ap (number_at g) its_rank)

-- the keys, sorted, are the keys by rank
pub sorted_keys-is : (g : WeightedGraph) (keys : List (ℕ × ℕ)) → IsPermutation (keys_of g) keys → IsSorted key_cmp keys → keys ≡ sorted_keys_of g
sorted_keys-is g keys same sorted =
    let long = length_permutation (keys_of g) keys same ∙ length-map-range_with_len (key g) 0 (length g.edges) in
    fill_by_all (λ k. key g (number_at g k)) keys (length g.edges) (0, 0) long
    (λ k l. sorted_at g keys same sorted k (0, 0) (omega (arith, l, long)))
