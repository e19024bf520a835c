-- The least member of a class, and labels by it.
use Rattle.std.proofs.Common.{◌≡◌, ℕ, zero, suc, ◌+◌, ◌<◌, ◌≤◌, Bool, true, false, ◌⊎◌, inl, inr, refl, sym, ◌∙◌, subst, ap, arith, List, length, map}
use Rattle.std.specs.Prelude.{Option, Some, find, unwrap_or, ◌==◌}
use Rattle.std.specs.List.{range_with_len}
use Rattle.std.proofs.lemmas.Bool.{cases_Bool, cases_order, both_ways}
use Rattle.std.proofs.lemmas.List.FromFn.{length-map-range_with_len, get_or-map-range_with_len}
use Rattle.hg_base.specs.Counting.{count_below, is_least}
use Rattle.hg_base.specs.Labels.{Labelling, IsLabel, IsLabelling, least_of, class_label, labelling}
use Rattle.hg_base.proofs.Counts.{count_below-agree, is_least-from}
use Rattle.hg_base.proofs.Passing.{count_below-rises}

-- the first number from a on that passes
pub record FirstOf (p : ℕ → Bool) (a n : ℕ) : Type 0 where
  pub at : ℕ
  pub found : find p (range_with_len a n) ≡ Some at
  pub passes : p at ≡ true
  pub before : (j : ℕ) → a ≤ j → j < at → p j ≡ false

pub first_of : (p : ℕ → Bool) (a n d : ℕ) → a ≤ d → d < a + n → p d ≡ true → FirstOf p a n
first_of p a zero d low high passes = absurd (omega arith)
first_of p a (suc n) d low high passes =
    elim (cases_Bool (p a)) [
      | inl here ↦ record { at = a; found = rw here refl; passes = here; before = λ j l h. absurd (omega arith) }
      | inr off ↦ later off (first_of p (a + 1) n d (past off) (omega arith) passes)
    ]
  where
    past : p a ≡ false → a + 1 ≤ d
    past off = elim (cases_order a d) [
      | inl level ↦ absurd (both_ways _ off (ap p level ∙ passes))
      | inr other ↦ elim other [ inl lower ↦ omega arith | inr higher ↦ absurd (omega arith) ]
    ]

    later : p a ≡ false → FirstOf p (a + 1) n → FirstOf p a (suc n)
    later off v = record {
      at = v.at;
      found = rw off v.found;
      passes = v.passes;
      before = λ j l h. elim (cases_order a j) [
        | inl level ↦ subst (λ (k : ℕ). p k ≡ false) level off
        | inr other ↦ elim other [ inl lower ↦ v.before j (omega arith) h | inr higher ↦ absurd (omega arith) ]
      ];
    }

-- e is the least member of the class of x
pub record IsLeastIn (r : ℕ → ℕ → Bool) (x e : ℕ) : Type 0 where
  pub member : r x e ≡ true
  pub least : (z : ℕ) → z < e → r x z ≡ false

pub IsLeastIn-one : (r : ℕ → ℕ → Bool) (x e f : ℕ) → IsLeastIn r x e → IsLeastIn r x f → e ≡ f
IsLeastIn-one r x e f p q =
    elim (cases_order e f) [
      | inl level ↦ level
      | inr other ↦ elim other [
        | inl low ↦ absurd (both_ways _ (q.least e low) p.member)
        | inr high ↦ absurd (both_ways _ (p.least f high) q.member)
      ]
    ]

-- what the search finds is the least member
pub least_of-is : (r : ℕ → ℕ → Bool) (x : ℕ) → r x x ≡ true → IsLeastIn r x (least_of r x)
least_of-is r x self =
    let f = first_of (r x) 0 (suc x) x (omega arith) (omega arith) self in
    let e : least_of r x ≡ f.at = ap (λ (o : Option ℕ). unwrap_or o x) f.found in record {
      member = ap (r x) e ∙ f.passes;
      least = λ z l. f.before z (omega arith) (omega (arith, e, l));
    }

-- and no greater than x
pub least_of-most : (r : ℕ → ℕ → Bool) (x : ℕ) → r x x ≡ true → least_of r x ≤ x
least_of-most r x self =
    elim (cases_order (least_of r x) x) [
      | inl level ↦ omega arith
      | inr other ↦ elim other [
        | inl low ↦ omega arith
        | inr high ↦ absurd (both_ways _ ((least_of-is r x self).least x high) self)
      ]
    ]

-- a number that has no lesser one in its class is the least
pub least_of-fresh : (r : ℕ → ℕ → Bool) (x : ℕ) → r x x ≡ true → ((y : ℕ) → y < x → r x y ≡ false) → least_of r x ≡ x
least_of-fresh r x self fresh = IsLeastIn-one r x _ _ (least_of-is r x self) (record { member = self; least = fresh })

-- classes that agree have one least member
pub least_of-agree : (r t : ℕ → ℕ → Bool) (x y : ℕ) → r x x ≡ true → t y y ≡ true → ((z : ℕ) → (z ≤ x) ⊎ (z ≤ y) → r x z ≡ t y z) → least_of r x ≡ least_of t y
least_of-agree r t x y hx hy agree =
    let a = least_of-is r x hx in
    let b = least_of-is t y hy in
    let la = least_of-most r x hx in
    let lb = least_of-most t y hy in
    elim (cases_order (least_of r x) (least_of t y)) [
      | inl level ↦ level
      | inr other ↦ elim other [
        | inl low ↦ absurd (both_ways _ (b.least (least_of r x) low) (sym (agree (least_of r x) (inl la)) ∙ a.member))
        | inr high ↦ absurd (both_ways _ (a.least (least_of t y) high) (agree (least_of t y) (inr lb) ∙ b.member))
      ]
    ]

-- functions that agree on a range give one list
pub map-agree : {X : Type 0} (f g : ℕ → X) (a n : ℕ) → ((i : ℕ) → a ≤ i → i < a + n → f i ≡ g i) → map f (range_with_len a n) ≡ map g (range_with_len a n)
map-agree f g a zero h = refl
map-agree f g a (suc n) h =
    let here : f a ≡ g a = h a (omega arith) (omega arith) in
    let rest : map f (range_with_len (a + 1) n) ≡ map g (range_with_len (a + 1) n) = map-agree f g (a + 1) n (λ i l k. h i (omega arith) (omega arith)) in
    rw (here, rest) refl

-- each is in its own class, classes are whole, and nothing more is asked below n
pub record IsClassing (n : ℕ) (r : ℕ → ℕ → Bool) : Type 0 where
  pub self : (x : ℕ) → x < n → r x x ≡ true
  pub back : (x y : ℕ) → x < n → y < n → r x y ≡ true → r y x ≡ true
  pub on : (x y z : ℕ) → x < n → y < n → z < n → r x y ≡ true → r y z ≡ true → r x z ≡ true

-- the least member of a class is a head
pub head-least : (n : ℕ) (r : ℕ → ℕ → Bool) → IsClassing n r → (x : ℕ) → x < n → is_least r (least_of r x) ≡ true
head-least n r c x h =
    let l = least_of-is r x (c.self x h) in
    let most = least_of-most r x (c.self x h) in
    is_least-from r (least_of r x) (λ y low. elim (cases_Bool (r (least_of r x) y)) [
      | inl joined ↦ absurd (both_ways _ (l.least y low) (c.on x (least_of r x) y h (omega arith) (omega arith) l.member joined))
      | inr apart ↦ apart
    ])

-- labels are from 1 to the number of classes
pub label-range : (n : ℕ) (r : ℕ → ℕ → Bool) → IsClassing n r → (x : ℕ) → x < n → IsLabel (count_below (is_least r) n) (class_label r x)
label-range n r c x h = record {
  positive = omega arith;
  most = omega (arith, count_below-rises (is_least r) (least_of r x) n (omega (arith, least_of-most r x (c.self x h), h)) (head-least n r c x h));
}

-- the labels of classes keep to what all labels keep to
pub IsLabelling-of : (n : ℕ) (r : ℕ → ℕ → Bool) → IsClassing n r → 1 ≤ n → n ≤ 1048576 → IsLabelling (labelling r n)
IsLabelling-of n r c some few =
    let long : length (labelling r n).labels ≡ n = length-map-range_with_len (class_label r) 0 n in record {
      some = omega arith;
      few = omega arith;
      each = λ k d h.
          let low : k < n = omega arith in
          subst (IsLabel (count_below (is_least r) n)) (sym (get_or-map-range_with_len (class_label r) 0 n k k d low (omega arith))) (label-range n r c k low);
    }

-- tests that agree below n label alike
pub labelling-agree : (n : ℕ) (r t : ℕ → ℕ → Bool) → IsClassing n r → ((x y : ℕ) → x < n → y < n → r x y ≡ t x y) → labelling r n ≡ labelling t n
labelling-agree n r t c agree =
    let heads : (x : ℕ) → x < n → is_least r x ≡ is_least t x = λ x h. ap (λ (k : ℕ). k == 0) (count_below-agree (r x) (t x) x (λ y l. agree x y h (omega arith))) in
    let labels : (labelling r n).labels ≡ (labelling t n).labels = map-agree (class_label r) (class_label t) 0 n (λ x l h. same_label heads x (omega arith)) in
    let count : (labelling r n).count ≡ (labelling t n).count = count_below-agree (is_least r) (is_least t) n heads in
    let with_labels : List ℕ → Labelling = λ l. record { labels = l; count = (labelling r n).count } in
    let with_count : ℕ → Labelling = λ k. record { labels = (labelling t n).labels; count = k } in
    ap with_labels labels ∙ ap with_count count
  where
    same_label : ((x : ℕ) → x < n → is_least r x ≡ is_least t x) → (x : ℕ) → x < n → class_label r x ≡ class_label t x
    same_label heads x h =
        let e : least_of r x ≡ least_of t x = least_of-agree r t x x (c.self x h) (sym (agree x x h h) ∙ c.self x h) (λ z l. agree x z h (omega arith)) in
        let most = least_of-most r x (c.self x h) in
        let counted : count_below (is_least r) (least_of r x) ≡ count_below (is_least t) (least_of r x) = count_below-agree (is_least r) (is_least t) (least_of r x) (λ y l. heads y (omega arith)) in
        ap (λ (k : ℕ). suc k) (counted ∙ ap (count_below (is_least t)) e)
