-- Labels by keys, number after number: what is noted of each key.
use Rattle.std.proofs.Common.{◌≡◌, ℕ, zero, suc, ◌+◌, ◌<◌, Bool, true, false, cond, ◌⊎◌, inl, inr, refl, sym, ◌∙◌, subst, ap, arith, List, length, length-set, get_or, set, replicate, take, drop, ◌++◌, ◌∷◌, [], map}
use Rattle.std.specs.List.{range_with_len}
use Rattle.std.proofs.lemmas.List.FromFn.{map-range_with_len_more}
use Rattle.std.proofs.Math.Seq.{take-append_seam}
use Rattle.std.specs.Prelude.{Option, Some, None, All, IfSome}
use Rattle.std.specs.Option.{is_some}
use Rattle.std.proofs.lemmas.Bool.{cases_order, both_ways, true≢false, false_from_ne_true, eqb-true, eq-eqb, and_from, and_left, and_right, cond-true, cond-false}
use Rattle.std.proofs.lemmas.List.{get_or-set_same, get_or-set_other}
use Rattle.hg_base.specs.Counting.{count_below, is_least}
use Rattle.hg_base.specs.Labels.{least_of}
use Rattle.hg_base.specs.Numbering.{is_one_key, has_key, same_key, is_class_head, key_label, AreNumbers}
use Rattle.hg_base.proofs.Counts.{least_below, is_least-from, is_least-to}
use Rattle.hg_base.proofs.Leasts.{least_of-fresh, least_of-agree}

-- equal keys are one
one_key-from : (j k : Option ℕ) (i : ℕ) → j ≡ Some i → k ≡ Some i → is_one_key j k ≡ true
one_key-from j k i p q = rw (p, q) (eq-eqb i i refl)

-- and one key is the other
one_key-to : (j k : Option ℕ) (i : ℕ) → j ≡ Some i → is_one_key j k ≡ true → k ≡ Some i
one_key-to j None i p h = absurd (true≢false (sym h ∙ rw p refl))
one_key-to j (Some m) i p h =
    let e : is_one_key (Some i) (Some m) ≡ true = subst (λ (o : Option ℕ). is_one_key o (Some m) ≡ true) p h in
    ap (λ (n : ℕ). Some n) (sym (eqb-true i m e))

-- numbers of one key have the same others with that key
same_key-rows : (keys : List (Option ℕ)) (x y i : ℕ) → get_or keys x None ≡ Some i → get_or keys y None ≡ Some i → (z : ℕ) → same_key keys x z ≡ same_key keys y z
same_key-rows keys x y i p q z = ap (λ (o : Option ℕ). is_one_key o (get_or keys z None)) (p ∙ sym q)

has-key : (keys : List (Option ℕ)) (x i : ℕ) → get_or keys x None ≡ Some i → has_key keys x ≡ true
has-key keys x i p = rw p refl

-- what has no key gets 0, and is no head
pub label-none : (keys : List (Option ℕ)) (x : ℕ) → get_or keys x None ≡ None → (key_label keys x ≡ 0) × (is_class_head keys x ≡ false)
label-none keys x p = let off : has_key keys x ≡ false = rw p refl in (cond-false (has_key keys x) _ _ off, and_left _ _ off)

-- what has the key of an earlier one gets its label, and is no head
pub label-old : (keys : List (Option ℕ)) (x y i : ℕ) → y < x → get_or keys x None ≡ Some i → get_or keys y None ≡ Some i → (key_label keys x ≡ key_label keys y) × (is_class_head keys x ≡ false)
label-old keys x y i lt p q =
    let least : least_of (same_key keys) x ≡ least_of (same_key keys) y =
    least_of-agree (same_key keys) (same_key keys) x y (one_key-from _ _ i p p) (one_key-from _ _ i q q) (λ z l. same_key-rows keys x y i p q z) in (
      cond-true (has_key keys x) _ _ (has-key keys x i p) ∙ ap (λ (e : ℕ). suc (count_below (is_class_head keys) e)) least ∙ sym (cond-true (has_key keys y) _ _ (has-key keys y i q)),
      and_right _ _ (false_from_ne_true (is_least (same_key keys) x) (λ h. both_ways _ (is_least-to (same_key keys) x h y lt) (one_key-from _ _ i p q))),
    )

-- what has a new key gets the next label, and is a head
pub label-new : (keys : List (Option ℕ)) (x i : ℕ) → get_or keys x None ≡ Some i → ((y : ℕ) → y < x → get_or keys y None ≡ Some i → ⊥) →
    (key_label keys x ≡ suc (count_below (is_class_head keys) x)) × (is_class_head keys x ≡ true)
label-new keys x i p new =
    let fresh : (y : ℕ) → y < x → same_key keys x y ≡ false = λ y l. false_from_ne_true (same_key keys x y) (λ h. new y l (one_key-to _ _ i p h)) in
    let least : least_of (same_key keys) x ≡ x = least_of-fresh (same_key keys) x (one_key-from _ _ i p p) fresh in (
      cond-true (has_key keys x) _ _ (has-key keys x i p) ∙ ap (λ (e : ℕ). suc (count_below (is_class_head keys) e)) least,
      and_from _ _ (has-key keys x i p) (is_least-from (same_key keys) x fresh),
    )

-- the count goes on
count-on : (keys : List (Option ℕ)) (x : ℕ) → is_class_head keys x ≡ true → count_below (is_class_head keys) (x + 1) ≡ count_below (is_class_head keys) x + 1
count-on keys x h = let e : x + 1 ≡ suc x = omega arith in ap (count_below (is_class_head keys)) e ∙ ap (λ (b : Bool). count_below (is_class_head keys) x + cond b 1 0) h

count-same : (keys : List (Option ℕ)) (x : ℕ) → is_class_head keys x ≡ false → count_below (is_class_head keys) (x + 1) ≡ count_below (is_class_head keys) x
count-same keys x h =
    let e : x + 1 ≡ suc x = omega arith in
    let none' : count_below (is_class_head keys) x + 0 ≡ count_below (is_class_head keys) x = omega arith in
    ap (count_below (is_class_head keys)) e ∙ ap (λ (b : Bool). count_below (is_class_head keys) x + cond b 1 0) h ∙ none'

-- x or an earlier one
up_to : (x y : ℕ) → y < x + 1 → (y ≡ x) ⊎ (y < x)
up_to x y h = elim (cases_order y x) [ inl level ↦ inl level | inr other ↦ elim other [ inl low ↦ inr low | inr high ↦ absurd (omega arith) ] ]

None-Some : (o : Option ℕ) (i : ℕ) → o ≡ None → o ≡ Some i → ⊥
None-Some o i p q = true≢false (sym (ap is_some q) ∙ ap is_some p)

same_Some : (o : Option ℕ) (i j : ℕ) → o ≡ Some i → o ≡ Some j → i ≡ j
same_Some o i j p q = let e : Some i ≡ Some j = sym p ∙ q in cc

-- nothing has to be noted of a number without a key
pub numbers-none : (keys : List (Option ℕ)) (x : ℕ) (numbers : List ℕ) (count : ℕ) → AreNumbers keys x numbers count → get_or keys x None ≡ None → AreNumbers keys (x + 1) numbers count
numbers-none keys x numbers count a p = record {
  counted = a.counted ∙ sym (count-same keys x (label-none keys x p).1);
  met = λ y k l q. elim (up_to x y l) [
    | inl level ↦ absurd (None-Some (get_or keys x None) k p (subst (λ (z : ℕ). get_or keys z None ≡ Some k) level q))
    | inr low ↦ a.met y k low q
  ];
  unmet = λ k l none'. a.unmet k l (λ y low. none' y (omega arith));
}

-- a key that has a number was met
was_met : (keys : List (Option ℕ)) (x : ℕ) (numbers : List ℕ) (count k : ℕ) → AreNumbers keys x numbers count → k < length numbers → (get_or numbers k 0 ≡ 0 → ⊥) →
    (y : ℕ) × ((y < x) × (get_or keys y None ≡ Some k))
was_met keys x numbers count k a l noted =
    elim (least_below (λ y. is_one_key (Some k) (get_or keys y None)) x) [
      | inl m ↦ (m.at, (m.low, one_key-to (Some k) (get_or keys m.at None) k refl m.passes))
      | inr never ↦ absurd (noted (a.unmet k l (λ y low q. both_ways _ (never y low) (one_key-from (Some k) (get_or keys y None) k refl q))))
    ]

-- a key that was met has its number
pub numbers-old : (keys : List (Option ℕ)) (x : ℕ) (numbers : List ℕ) (count k : ℕ) → AreNumbers keys x numbers count → get_or keys x None ≡ Some k → k < length numbers → (get_or numbers k 0 ≡ 0 → ⊥) →
    (key_label keys x ≡ get_or numbers k 0) × AreNumbers keys (x + 1) numbers count
numbers-old keys x numbers count k a p l noted =
    let m = was_met keys x numbers count k a l noted in
    let old = label-old keys x m.0 k m.1.0 p m.1.1 in
    let same : key_label keys x ≡ get_or numbers k 0 = old.0 ∙ sym (a.met m.0 k m.1.0 m.1.1) in (
      same,
      record {
        counted = a.counted ∙ sym (count-same keys x old.1);
        met = λ y j l' q. elim (up_to x y l') [
          | inl level ↦ here same y j level q
          | inr low ↦ a.met y j low q
        ];
        unmet = λ j l' none'. a.unmet j l' (λ y low. none' y (omega arith));
      },
    )
  where
    here : key_label keys x ≡ get_or numbers k 0 → (y j : ℕ) → y ≡ x → get_or keys y None ≡ Some j → get_or numbers j 0 ≡ key_label keys y
    here same y j level q =
        let one : j ≡ k = same_Some (get_or keys y None) j k q (ap (λ (z : ℕ). get_or keys z None) level ∙ p) in
        ap (λ (i : ℕ). get_or numbers i 0) one ∙ sym same ∙ ap (key_label keys) (sym level)

-- a key that is new gets the next number
pub numbers-new : (keys : List (Option ℕ)) (x : ℕ) (numbers : List ℕ) (count k : ℕ) → AreNumbers keys x numbers count → get_or keys x None ≡ Some k → k < length numbers → get_or numbers k 0 ≡ 0 →
    (key_label keys x ≡ count + 1) × AreNumbers keys (x + 1) (set numbers k (count + 1)) (count + 1)
numbers-new keys x numbers count k a p l zero' =
    let fresh : (y : ℕ) → y < x → get_or keys y None ≡ Some k → ⊥ = λ y low q. unmet_before y low q in
    let new = label-new keys x k p fresh in
    let same : key_label keys x ≡ count + 1 = omega (arith, new.0, a.counted) in (
      same,
      record {
        counted = omega (arith, a.counted, count-on keys x new.1);
        met = λ y j l' q. elim (up_to x y l') [
          | inl level ↦ here same y j level q
          | inr low ↦ get_or-set_other numbers k j (count + 1) 0 (λ one. fresh y low (subst (λ (i : ℕ). get_or keys y None ≡ Some i) one q)) ∙ a.met y j low q
        ];
        unmet = λ j l' none'.
            let other : j ≡ k → ⊥ = λ one. none' x (omega arith) (p ∙ ap (λ (i : ℕ). Some i) (sym one)) in
            get_or-set_other numbers k j (count + 1) 0 other ∙ a.unmet j (within j l') (λ y low. none' y (omega arith));
      },
    )
  where
    unmet_before : (y : ℕ) → y < x → get_or keys y None ≡ Some k → ⊥
    unmet_before y low q =
        let e : key_label keys y ≡ 0 = sym (a.met y k low q) ∙ zero' in
        let f : key_label keys y ≡ suc (count_below (is_class_head keys) (least_of (same_key keys) y)) = cond-true (has_key keys y) _ _ (has-key keys y k q) in
        omega arith

    here : key_label keys x ≡ count + 1 → (y j : ℕ) → y ≡ x → get_or keys y None ≡ Some j → get_or (set numbers k (count + 1)) j 0 ≡ key_label keys y
    here same y j level q =
        let one : j ≡ k = same_Some (get_or keys y None) j k q (ap (λ (z : ℕ). get_or keys z None) level ∙ p) in
        ap (λ (i : ℕ). get_or (set numbers k (count + 1)) i 0) one ∙ get_or-set_same numbers k (count + 1) 0 l ∙ sym same ∙ ap (key_label keys) (sym level)

    within : (j : ℕ) → j < length (set numbers k (count + 1)) → j < length numbers
    within j h = let e : length (set numbers k (count + 1)) ≡ length numbers = length-set numbers k (count + 1) in omega arith

-- no key is noted yet
pub numbers-first : (keys : List (Option ℕ)) (bound : ℕ) → AreNumbers keys 0 (replicate bound 0) 0
numbers-first keys bound = record {
  counted = refl;
  met = λ y k l q. absurd (omega arith);
  unmet = λ k l none'. get_or-replicate_at bound k;
}
  where
    get_or-replicate_at : (n k : ℕ) → get_or {A = ℕ} (replicate n 0) k 0 ≡ 0
    get_or-replicate_at zero k = refl
    get_or-replicate_at (suc n) zero = refl
    get_or-replicate_at (suc n) (suc k) = get_or-replicate_at n k

-- a key is below the bound of all keys
pub key-below : (keys : List (Option ℕ)) (x k bound : ℕ) → x < length keys → All (λ (key : Option ℕ). IfSome key (λ j. j < bound)) keys → get_or keys x None ≡ Some k → k < bound
key-below keys x k bound h below q = subst (λ (key : Option ℕ). IfSome key (λ j. j < bound)) q (below x None h)

-- a slice that takes the place of a whole list
pub written_back : (new old : List ℕ) (n : ℕ) → length new ≡ n → take n (new ++ drop (length new) old) ≡ new
written_back new old n long = subst (λ (m : ℕ). take m (new ++ drop (length new) old) ≡ new) long (take-append_seam new (drop (length new) old))

-- one more label
pub labels_more : (keys : List (Option ℕ)) (x label : ℕ) (labels new : List ℕ) → labels ≡ map (key_label keys) (range_with_len 0 x) → label ≡ key_label keys x → new ≡ labels ++ label ∷ [] →
    new ≡ map (key_label keys) (range_with_len 0 (x + 1))
labels_more keys x label labels new so_far this pushed =
    let more = map-range_with_len_more (key_label keys) 0 x x (omega arith) in cc
