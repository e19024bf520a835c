-- The list of all cuts, and the one least cut.
use Rattle.std.proofs.Common.{◌≡◌, ℕ, zero, suc, ◌+◌, ◌<◌, ◌≤◌, Bool, true, false, cond, inl, inr, refl, sym, ◌∙◌, subst, ap, arith, List, [], ◌∷◌, ◌++◌, length, map}
use Rattle.std.specs.Prelude.{◌⊎◌, ◌==◌, ◌&&◌, ◌||◌, filter, count_by, nat_lt}
use Rattle.std.specs.List.{range_with_len, list_any}
use Rattle.std.specs.List.Sorted.{IsStrictlyIncreasing}
use Rattle.std.proofs.lemmas.Bool.{cases_Bool, cases_lt, or_cases, or_left, or_right, and_parts, and_from, eqb-true, eq-eqb, false_from_ne_true, both_ways, lt-ltb, ltb-true}
use Rattle.std.proofs.lemmas.List.Sums.{sum_by-cons}
use Rattle.hg_base.specs.Lists.{IsIn}
use Rattle.tree_laws.specs.Tree.{ParentTree, IsAbove}
use Rattle.tree_laws.specs.Levels.{is_above}
use Rattle.tree_laws.proofs.Climbs.{above-on, above-same}
use Rattle.hg_base.proofs.Lists.{IsIn-filter, IsIn-kept}
use Rattle.edge_laws.proofs.Sets.{same_test}
use Rattle.tree_laws.proofs.Tops.{is_above-from, is_above-to}
use Rattle.partition_tree.specs.TreeLists.{IsWellFormed}
use Rattle.partition_tree.proofs.WellFormed.{well_formed-climbs, well_formed-leaves}
use Rattle.energy_cut.specs.Cuts.{IsCut, IsLeastCut, IsCoarser, cut_energy, sublists, leaf_numbers, is_cut, cuts, is_coarser, is_least_cut, least_cut_of}
use Rattle.partition_tree.proofs.ListTests.{any-from, any-to, all-from, all-to, range-from, range-to}
use Rattle.energy_cut.proofs.ListMembers.{find-at, has, has-from, has-to, RisesFrom, rises-from, rises-to, rises-least, filter-agree, rising-passing}
use Rattle.energy_cut.proofs.HighestKeepers.{cut-within, has_leaf-from, has_leaf-to}

-- the lists that two lists hold
in-left : {X : Type 0} (x : X) (xs ys : List X) → IsIn x xs → IsIn x (xs ++ ys)
in-left {X} x [] ys i = absurd i
in-left {X} x (z ∷ zs) ys (inl same) = inl same
in-left {X} x (z ∷ zs) ys (inr later) = inr (in-left x zs ys later)

in-right : {X : Type 0} (x : X) (xs ys : List X) → IsIn x ys → IsIn x (xs ++ ys)
in-right {X} x [] ys i = i
in-right {X} x (z ∷ zs) ys i = inr (in-right x zs ys i)

in-either : {X : Type 0} (x : X) (xs ys : List X) → IsIn x (xs ++ ys) → IsIn x xs ⊎ IsIn x ys
in-either {X} x [] ys i = inr i
in-either {X} x (z ∷ zs) ys (inl same) = inl (inl same)
in-either {X} x (z ∷ zs) ys (inr later) = elim (in-either x zs ys later) [ inl l ↦ inl (inr l) | inr r ↦ inr r ]

in-map : (a : ℕ) (c : List ℕ) (cs : List (List ℕ)) → IsIn c cs → IsIn (a ∷ c) (map (λ d. a ∷ d) cs)
in-map a c [] i = absurd i
in-map a c (d ∷ ds) (inl same) = inl (ap (λ (e : List ℕ). a ∷ e) same)
in-map a c (d ∷ ds) (inr later) = inr (in-map a c ds later)

in-mapped : (a : ℕ) (c : List ℕ) (cs : List (List ℕ)) → IsIn c (map (λ d. a ∷ d) cs) → (d : List ℕ) × (IsIn d cs × ((a ∷ d) ≡ c))
in-mapped a c [] i = absurd i
in-mapped a c (d ∷ ds) (inl same) = (d, (inl refl, same))
in-mapped a c (d ∷ ds) (inr later) = let rest = in-mapped a c ds later in (rest.0, (inr rest.1.0, rest.1.1))

-- what a test keeps_own of a list is one of its sublists
sublist-filter : (p : ℕ → Bool) (xs : List ℕ) → IsIn (filter p xs) (sublists xs)
sublist-filter p [] = inl refl
sublist-filter p (x ∷ xs) = elim (cases_Bool (p x)) [
  | inl h ↦ rw h (in-left (x ∷ filter p xs) (map (λ c. x ∷ c) (sublists xs)) (sublists xs) (in-map x (filter p xs) (sublists xs) (sublist-filter p xs)))
  | inr h ↦ rw h (in-right (filter p xs) (map (λ c. x ∷ c) (sublists xs)) (sublists xs) (sublist-filter p xs))
]

-- a sublist of a range rises in it
pub record RisesIn (a n : ℕ) (c : List ℕ) : Type 0 where
  pub rises : RisesFrom a c
  pub few : (x : ℕ) → IsIn x c → x < a + n

wider : (a : ℕ) (c : List ℕ) → RisesFrom (a + 1) c → RisesFrom a c
wider a [] r = tt
wider a (x ∷ xs) r = (omega (arith, r.0), r.1)

sublist-rises : (a n : ℕ) (c : List ℕ) → IsIn c (sublists (range_with_len a n)) → RisesIn a n c
sublist-rises a zero c (inl same) = subst (RisesIn a 0) same (record { rises = tt; few = λ x i. absurd i })
sublist-rises a zero c (inr i) = absurd i
sublist-rises a (suc n) c i = elim (in-either c (map (λ d. a ∷ d) (sublists (range_with_len (a + 1) n))) (sublists (range_with_len (a + 1) n)) i) [
  | inl first ↦
      let m = in-mapped a c (sublists (range_with_len (a + 1) n)) first in
      let rest = sublist-rises (a + 1) n m.0 m.1.0 in
      subst (RisesIn a (suc n)) m.1.1 (record { rises = (omega arith, rest.rises); few = λ x j. begins m.0 rest.few x j })
  | inr later ↦
      let rest = sublist-rises (a + 1) n c later in
      record { rises = wider a c rest.rises; few = λ x j. omega (arith, rest.few x j) }
]
  where
    begins : (d : List ℕ) → ((x : ℕ) → IsIn x d → x < a + 1 + n) → (x : ℕ) → IsIn x (a ∷ d) → x < a + suc n
    begins d few x (inl same) = omega arith
    begins d few x (inr j) = omega (arith, few x j)

-- none of a list passes
counts-none : (p : ℕ → Bool) (xs : List ℕ) → count_by p xs ≡ 0 → (x : ℕ) → IsIn x xs → p x ≡ false
counts-none p [] e x i = absurd i
counts-none p (y ∷ ys) e x i =
    let split : count_by p (y ∷ ys) ≡ cond (p y) 1 0 + count_by p ys = sum_by-cons (λ z. cond (p z) 1 0) y ys in
    elim (cases_Bool (p y)) [
      | inl h ↦ absurd (let one : cond {A = ℕ} (p y) 1 0 ≡ 1 = rw h refl in omega arith)
      | inr h ↦ elim i [
        | inl same ↦ ap p (sym same) ∙ h
        | inr later ↦ counts-none p ys (omega arith) x later
      ]
    ]

counts-zero : (p : ℕ → Bool) (xs : List ℕ) → ((x : ℕ) → IsIn x xs → p x ≡ false) → count_by p xs ≡ 0
counts-zero p [] off = refl
counts-zero p (y ∷ ys) off =
    let split : count_by p (y ∷ ys) ≡ cond (p y) 1 0 + count_by p ys = sum_by-cons (λ z. cond (p z) 1 0) y ys in
    let none' : cond {A = ℕ} (p y) 1 0 ≡ 0 = rw (off y (inl refl)) refl in
    let rest : count_by p ys ≡ 0 = counts-zero p ys (λ x i. off x (inr i)) in
    omega arith

-- exactly one of a list passes
pub record PassesOnce (p : ℕ → Bool) (xs : List ℕ) : Type 0 where
  pub one : ℕ
  pub member : IsIn one xs
  pub passes : p one ≡ true
  pub only : (x : ℕ) → IsIn x xs → p x ≡ true → x ≡ one

counts-one : (p : ℕ → Bool) (xs : List ℕ) → count_by p xs ≡ 1 → PassesOnce p xs
counts-one p [] e = absurd (omega arith)
counts-one p (y ∷ ys) e =
    let split : count_by p (y ∷ ys) ≡ cond (p y) 1 0 + count_by p ys = sum_by-cons (λ z. cond (p z) 1 0) y ys in
    elim (cases_Bool (p y)) [
      | inl h ↦
          let one : cond {A = ℕ} (p y) 1 0 ≡ 1 = rw h refl in
          let rest : count_by p ys ≡ 0 = omega arith in
          record { one = y; member = inl refl; passes = h; only = λ x i q. elim i [ inl same ↦ sym same | inr m ↦ absurd (both_ways (p x) (counts-none p ys rest x m) q) ] }
      | inr h ↦
          let none' : cond {A = ℕ} (p y) 1 0 ≡ 0 = rw h refl in
          let rest = counts-one p ys (omega arith) in
          record {
            one = rest.one;
            member = inr rest.member;
            passes = rest.passes;
            only = λ x i q. elim i [ inl same ↦ absurd (both_ways (p y) h (ap p same ∙ q)) | inr m ↦ rest.only x m q ];
          }
    ]

-- where the numbers of a list rise, one that passes alone is counted once
counts-once : (p : ℕ → Bool) (low : ℕ) (xs : List ℕ) → RisesFrom low xs → PassesOnce p xs → count_by p xs ≡ 1
counts-once p low [] r o = absurd o.member
counts-once p low (y ∷ ys) r o =
    let split : count_by p (y ∷ ys) ≡ cond (p y) 1 0 + count_by p ys = sum_by-cons (λ z. cond (p z) 1 0) y ys in
    elim (cases_Bool (p y)) [
      | inl h ↦
          let one : cond {A = ℕ} (p y) 1 0 ≡ 1 = rw h refl in
          let here : y ≡ o.one = o.only y (inl refl) h in
          let rest : count_by p ys ≡ 0 = counts-zero p ys (λ x m. false_from_ne_true (p x) (λ q. (let same : x ≡ o.one = o.only x (inr m) q in let up : y + 1 ≤ x = rises-least (y + 1) ys r.1 x m in omega arith))) in
          omega arith
      | inr h ↦
          let none' : cond {A = ℕ} (p y) 1 0 ≡ 0 = rw h refl in
          let later : IsIn o.one ys = elim o.member [ inl same ↦ absurd (both_ways (p y) h (ap p same ∙ o.passes)) | inr m ↦ m ] in
          let rest : count_by p ys ≡ 1 = counts-once p (y + 1) ys r.1 (record { one = o.one; member = later; passes = o.passes; only = λ x m q. o.only x (inr m) q }) in
          omega arith
    ]

-- the test of a cut says what it is to say
is_cut-from : (t : ParentTree) → IsWellFormed t → (c : List ℕ) → IsCut t c → is_cut t c ≡ true
is_cut-from t f c k = and_from _ _
    (all-from (λ i. list_any (is_above t i) (leaf_numbers t)) c (λ i m. let x = k.in_paths i m in has_leaf-from t f i x.0 x.1.0 x.1.1))
    (all-from (λ x. count_by (λ i. is_above t i x) c == 1) (leaf_numbers t) (λ x m. once x (let r = range-to 0 t.leaves x m in omega (arith, r.1))))
  where
    once : (x : ℕ) → x < t.leaves → (count_by (λ i. is_above t i x) c == 1) ≡ true
    once x h =
        let few = well_formed-leaves t f in
        let one = k.one_each x h in
        eq-eqb (count_by (λ i. is_above t i x) c) 1
        (counts-once (λ i. is_above t i x) 0 c (rises-from 0 c k.rising (λ y m. omega arith)) (record {
          one = one.node;
          member = one.member;
          passes = is_above-from t (well_formed-climbs t f) one.node x (omega arith) one.above;
          only = λ j m q. one.only j m (is_above-to t j x q);
        }))

is_cut-to : (t : ParentTree) → IsWellFormed t → (c : List ℕ) → IsStrictlyIncreasing c → is_cut t c ≡ true → IsCut t c
is_cut-to t f c up h =
    let few = well_formed-leaves t f in
    let parts = and_parts _ _ h in record {
      rising = up;
      in_paths = λ i m. has_leaf-to t i (all-to (λ j. list_any (is_above t j) (leaf_numbers t)) c parts.0 i m);
      one_each = λ x l.
          let one = counts-one (λ i. is_above t i x) c (eqb-true (count_by (λ i. is_above t i x) c) 1 (all-to (λ y. count_by (λ i. is_above t i y) c == 1) (leaf_numbers t) parts.1 x (range-from 0 t.leaves x (omega arith) (omega arith)))) in record {
            node = one.one;
            member = one.member;
            above = is_above-to t one.one x one.passes;
            only = λ j m a. one.only j m (is_above-from t (well_formed-climbs t f) j x (omega arith) a);
          };
    }

-- the list of cuts has exactly the cuts
pub cuts-from : (t : ParentTree) → IsWellFormed t → (c : List ℕ) → IsCut t c → IsIn c (cuts t)
cuts-from t f c k =
    IsIn-filter (is_cut t) c (sublists (range_with_len 0 (length t.parents))) (is_cut-from t f c k)
    (subst (λ (d : List ℕ). IsIn d (sublists (range_with_len 0 (length t.parents)))) (sym (rising-passing (length t.parents) c k.rising (cut-within t f c k)))
    (sublist-filter (has c) (range_with_len 0 (length t.parents))))

pub cuts-to : (t : ParentTree) → IsWellFormed t → (c : List ℕ) → IsIn c (cuts t) → IsCut t c
cuts-to t f c i =
    let k = IsIn-kept (is_cut t) c (sublists (range_with_len 0 (length t.parents))) i in
    is_cut-to t f c (rises-to 0 c (sublist-rises 0 (length t.parents) c k.1).rises) k.0

-- the test of a coarser cut
is_coarser-from : (t : ParentTree) → IsWellFormed t → (c d : List ℕ) → IsCut t d → IsCoarser t c d → is_coarser t c d ≡ true
is_coarser-from t f c d k over = all-from (λ j. list_any (λ i. is_above t i j) c) d (λ j m. let i = over j m in
    any-from (λ i'. is_above t i' j) i.0 c i.1.0 (is_above-from t (well_formed-climbs t f) i.0 j (cut-within t f d k j m) i.1.1))

is_coarser-to : (t : ParentTree) (c d : List ℕ) → is_coarser t c d ≡ true → IsCoarser t c d
is_coarser-to t c d h j m =
    let found = any-to (λ i. is_above t i j) c (all-to (λ k. list_any (λ i. is_above t i k) c) d h j m) in
    (found.0, (found.1.0, is_above-to t found.0 j found.1.1))

-- the test of the least cut
abbrev pub is_no_better : ParentTree → List ℕ → List ℕ → List ℕ → Bool
is_no_better t e c d = nat_lt (cut_energy e c) (cut_energy e d) || ((cut_energy e c == cut_energy e d) && is_coarser t c d)

is_least_cut-from : (t : ParentTree) (e c : List ℕ) → IsWellFormed t → IsLeastCut t e c → is_least_cut t e c ≡ true
is_least_cut-from t e c f l = all-from (is_no_better t e c) (cuts t) (λ d m. passes d (cuts-to t f d m))
  where
    passes : (d : List ℕ) → IsCut t d → is_no_better t e c d ≡ true
    passes d k =
        let low : cut_energy e c ≤ cut_energy e d = l.least d k in
        elim (cases_lt (cut_energy e c) (cut_energy e d)) [
          | inl less ↦ or_left _ _ (lt-ltb (cut_energy e c) (cut_energy e d) less)
          | inr more ↦
              let same : cut_energy e d ≡ cut_energy e c = omega arith in
              or_right _ _ (and_from _ _ (eq-eqb (cut_energy e c) (cut_energy e d) (sym same)) (is_coarser-from t f c d k (l.coarsest d k same)))
        ]

is_least_cut-to : (t : ParentTree) (e c : List ℕ) → IsWellFormed t → IsCut t c → is_least_cut t e c ≡ true → IsLeastCut t e c
is_least_cut-to t e c f k h = record {
  cut = k;
  least = λ d kd. elim (said d kd) [
    | inl less ↦ (let l : cut_energy e c < cut_energy e d = ltb-true (cut_energy e c) (cut_energy e d) less in omega arith)
    | inr level ↦ (let s : cut_energy e c ≡ cut_energy e d = eqb-true (cut_energy e c) (cut_energy e d) (and_parts _ _ level).0 in omega arith)
  ];
  coarsest = λ d kd same. elim (said d kd) [
    | inl less ↦ absurd (let l : cut_energy e c < cut_energy e d = ltb-true (cut_energy e c) (cut_energy e d) less in omega arith)
    | inr level ↦ is_coarser-to t c d (and_parts _ _ level).1
  ];
}
  where
    said : (d : List ℕ) → IsCut t d → (nat_lt (cut_energy e c) (cut_energy e d) ≡ true) ⊎ (((cut_energy e c == cut_energy e d) && is_coarser t c d) ≡ true)
    said d kd = or_cases _ _ (all-to (is_no_better t e c) (cuts t) h d (cuts-from t f d kd))

-- where there is a least cut, the one of the definition is one
pub least-found : (t : ParentTree) (e c : List ℕ) → IsWellFormed t → IsLeastCut t e c → IsLeastCut t e (least_cut_of t e)
least-found t e c f l =
    let found = find-at (is_least_cut t e) c [] (cuts t) (cuts-from t f c l.cut) (is_least_cut-from t e c f l) in
    is_least_cut-to t e (least_cut_of t e) f (cuts-to t f (least_cut_of t e) found.0) found.1

-- of two cuts that are coarser than each other each node of one is of the other
coarser-member : (t : ParentTree) → IsWellFormed t → (c d : List ℕ) → IsCut t c → IsCut t d → IsCoarser t c d → IsCoarser t d c → (i : ℕ) → IsIn i c → IsIn i d
coarser-member t f c d kc kd cd dc i m =
    let up = well_formed-climbs t f in
    let j = dc i m in
    let k = cd j.0 j.1.0 in
    let x = kc.in_paths i m in
    let one = kc.one_each x.0 x.1.0 in
    let back : k.0 ≡ i = one.only k.0 k.1.0 (above-on t k.0 i x.0 (above-on t k.0 j.0 i k.1.1 j.1.1) x.1.1) ∙ sym (one.only i m x.1.1) in
    let same : j.0 ≡ i = above-same t up j.0 i (cut-within t f d kd j.0 j.1.0) (cut-within t f c kc i m) j.1.1 (subst (λ (z : ℕ). IsAbove t z j.0) back k.1.1) in
    subst (λ (z : ℕ). IsIn z d) same j.1.0

-- there are no two least cuts
pub least-one : (t : ParentTree) (e c d : List ℕ) → IsWellFormed t → IsLeastCut t e c → IsLeastCut t e d → c ≡ d
least-one t e c d f lc ld =
    let low : cut_energy e c ≤ cut_energy e d = lc.least d ld.cut in
    let high : cut_energy e d ≤ cut_energy e c = ld.least c lc.cut in
    let same : cut_energy e d ≡ cut_energy e c = omega arith in
    let cd = lc.coarsest d ld.cut same in
    let dc = ld.coarsest c lc.cut (sym same) in
    rising-passing (length t.parents) c lc.cut.rising (cut-within t f c lc.cut)
    ∙ filter-agree (has c) (has d) 0 (length t.parents) (λ x a b. same_test _ _
    (λ h. has-from d x (coarser-member t f c d lc.cut ld.cut cd dc x (has-to c x h)))
    (λ h. has-from c x (coarser-member t f d c ld.cut lc.cut dc cd x (has-to d x h))))
    ∙ sym (rising-passing (length t.parents) d ld.cut.rising (cut-within t f d ld.cut))
