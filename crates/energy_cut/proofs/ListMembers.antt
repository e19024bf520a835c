-- Members of lists, and rising lists of numbers.
use Rattle.std.proofs.Common.{◌≡◌, ℕ, zero, suc, ◌+◌, ◌<◌, ◌≤◌, Bool, true, false, cond, inl, inr, refl, sym, ◌∙◌, subst, ap, arith, List, [], ◌∷◌, get_or}
use Rattle.std.specs.Prelude.{◌==◌, filter, find, unwrap_or}
use Rattle.std.specs.List.{range_with_len, list_any, list_all}
use Rattle.std.specs.List.Sorted.{IsStrictlyIncreasing}
use Rattle.std.proofs.lemmas.Bool.{cases_Bool, cases_eq, or_cases, or_left, or_right, and_parts, and_from, false≢true, eq-eqb, eqb-true, false_from_ne_true, cond-true, cond-false}
use Rattle.hg_base.specs.Lists.{IsIn}
use Rattle.hg_base.proofs.Lists.{IsIn-filter, IsIn-kept}
use Rattle.hg_base.proofs.Passing.{passing}
use Rattle.edge_laws.proofs.Sets.{same_test}
use Rattle.partition_tree.proofs.ListTests.{any-from, any-to, range-to, range-from}

-- the first element that passes is one of the list that passes
pub find-at : {X : Type 0} (p : X → Bool) (x d : X) (xs : List X) → IsIn x xs → p x ≡ true → IsIn (unwrap_or (find p xs) d) xs × (p (unwrap_or (find p xs) d) ≡ true)
find-at {X} p x d [] i h = absurd i
find-at {X} p x d (y ∷ ys) i h = elim (cases_Bool (p y)) [
  | inl passes ↦
      let e : unwrap_or (find p (y ∷ ys)) d ≡ y = rw passes refl in
      (inl (sym e), ap p e ∙ passes)
  | inr off ↦
      let e : unwrap_or (find p (y ∷ ys)) d ≡ unwrap_or (find p ys) d = rw off refl in
      let rest = find-at p x d ys (elim i [ inl same ↦ absurd (false≢true (sym off ∙ ap p same ∙ h)) | inr later ↦ later ]) h in
      (inr (subst (λ (z : X). IsIn z ys) (sym e) rest.0), ap p e ∙ rest.1)
]

-- the numbers below n that pass, as members
pub passing-from : (p : ℕ → Bool) (n x : ℕ) → x < n → p x ≡ true → IsIn x (passing p n)
passing-from p n x h passes = IsIn-filter p x (range_with_len 0 n) passes (range-from 0 n x (omega arith) (omega arith))

pub passing-to : (p : ℕ → Bool) (n x : ℕ) → IsIn x (passing p n) → (p x ≡ true) × (x < n)
passing-to p n x i = let k = IsIn-kept p x (range_with_len 0 n) i in let r = range-to 0 n x k.1 in (k.0, omega (arith, r.1))

-- x is one of the numbers
abbrev pub has : List ℕ → ℕ → Bool
has xs x = list_any (λ y. y == x) xs

pub has-from : (xs : List ℕ) (x : ℕ) → IsIn x xs → has xs x ≡ true
has-from xs x i = any-from (λ y. y == x) x xs i (eq-eqb x x refl)

pub has-to : (xs : List ℕ) (x : ℕ) → has xs x ≡ true → IsIn x xs
has-to xs x h = let found = any-to (λ y. y == x) xs h in subst (λ (z : ℕ). IsIn z xs) (eqb-true found.0 x found.1.1) found.1.0

-- each number is at least `low` and less than all after it
abbrev pub RisesFrom : ℕ → List ℕ → Type 0
RisesFrom low [] = Unit {0}
RisesFrom low (x ∷ xs) = (low ≤ x) × RisesFrom (x + 1) xs

-- the numbers after the first
tail-up : (y : ℕ) (ys : List ℕ) → IsStrictlyIncreasing (y ∷ ys) → IsStrictlyIncreasing ys
tail-up y ys up k h =
    let next : suc k + 1 ≡ suc (k + 1) = omega arith in
    subst (λ (m : ℕ). get_or (y ∷ ys) (suc k) 0 < get_or (y ∷ ys) m 0) next (up (suc k) (omega arith))

-- each number is below the next, in either form
pub rises-from : (low : ℕ) (xs : List ℕ) → IsStrictlyIncreasing xs → ((x : ℕ) → IsIn x xs → low ≤ x) → RisesFrom low xs
rises-from low [] up least = tt
rises-from low (x ∷ []) up least = (least x (inl refl), tt)
rises-from low (x ∷ y ∷ xs) up least =
    let next : x < y = up 0 (omega arith) in
    let rest = rises-from y (y ∷ xs) (tail-up x (y ∷ xs) up) (later y xs (tail-up x (y ∷ xs) up)) in
    (least x (inl refl), (omega arith, rest.1))
  where
    later : (y : ℕ) (ys : List ℕ) → IsStrictlyIncreasing (y ∷ ys) → (z : ℕ) → IsIn z (y ∷ ys) → y ≤ z
    later y ys up' z (inl same) = omega arith
    later y [] up' z (inr i) = absurd i
    later y (w ∷ ws) up' z (inr i) =
        let next : y < w = up' 0 (omega arith) in
        let rest : w ≤ z = later w ws (tail-up y (w ∷ ws) up') z i in
        omega arith

pub rises-to : (low : ℕ) (xs : List ℕ) → RisesFrom low xs → IsStrictlyIncreasing xs
rises-to low [] r k h = absurd (omega arith)
rises-to low (x ∷ []) r k h = absurd (omega arith)
rises-to low (x ∷ y ∷ xs) r zero h = omega (arith, r.1.0)
rises-to low (x ∷ y ∷ xs) r (suc k) h =
    let next : suc (k + 1) ≡ suc k + 1 = omega arith in
    subst (λ (m : ℕ). get_or (x ∷ y ∷ xs) (suc k) 0 < get_or (x ∷ y ∷ xs) m 0) next (rises-to (x + 1) (y ∷ xs) r.1 k (omega arith))

-- all numbers of a rising list are at least its bound
pub rises-least : (low : ℕ) (xs : List ℕ) → RisesFrom low xs → (x : ℕ) → IsIn x xs → low ≤ x
rises-least low [] r x i = absurd i
rises-least low (y ∷ ys) r x (inl same) = omega (arith, r.0)
rises-least low (y ∷ ys) r x (inr later) = let rest : y + 1 ≤ x = rises-least (y + 1) ys r.1 x later in omega (arith, r.0)

-- filters of a range that agree
pub filter-agree : (p q : ℕ → Bool) (a n : ℕ) → ((x : ℕ) → a ≤ x → x < a + n → p x ≡ q x) → filter p (range_with_len a n) ≡ filter q (range_with_len a n)
filter-agree p q a zero h = refl
filter-agree p q a (suc n) h =
    ap (λ (b : Bool). cond b (a ∷ filter p (range_with_len (a + 1) n)) (filter p (range_with_len (a + 1) n))) (h a (omega arith) (omega arith))
    ∙ ap (λ (xs : List ℕ). cond (q a) (a ∷ xs) xs) (filter-agree p q (a + 1) n (λ x low high. h x (omega arith) (omega arith)))

-- a rising list of numbers of a range is what it keeps_own of the range
pub rises-filter : (a n : ℕ) (xs : List ℕ) → RisesFrom a xs → ((x : ℕ) → IsIn x xs → x < a + n) → xs ≡ filter (has xs) (range_with_len a n)
rises-filter a zero [] r few = refl
rises-filter a zero (x ∷ xs) r few = absurd (omega (arith, r.0, few x (inl refl)))
rises-filter a (suc n) [] r few = none' (range_with_len a (suc n))
  where
    none' : (ys : List ℕ) → [] ≡ filter (has []) ys
    none' [] = refl
    none' (y ∷ ys) = none' ys
rises-filter a (suc n) (x ∷ xs) r few = elim (cases_eq x a) [
  | inl here ↦
      let rest : xs ≡ filter (has xs) (range_with_len (a + 1) n) =
      rises-filter (a + 1) n xs (subst (λ (b : ℕ). RisesFrom (b + 1) xs) here r.1) (λ z i. omega (arith, few z (inr i))) in
      let kept : has (x ∷ xs) a ≡ true = has-from (x ∷ xs) a (inl here) in
      let same : filter (has xs) (range_with_len (a + 1) n) ≡ filter (has (x ∷ xs)) (range_with_len (a + 1) n) =
      filter-agree (has xs) (has (x ∷ xs)) (a + 1) n (λ z low high. same_test _ _ (λ h. has-from (x ∷ xs) z (inr (has-to xs z h)))
      (λ h. has-from xs z (after z here (omega arith) (has-to (x ∷ xs) z h)))) in
      ap (λ (y : ℕ). y ∷ xs) here ∙ ap (λ (ys : List ℕ). a ∷ ys) (rest ∙ same)
      ∙ sym (cond-true (has (x ∷ xs) a) (a ∷ filter (has (x ∷ xs)) (range_with_len (a + 1) n)) (filter (has (x ∷ xs)) (range_with_len (a + 1) n)) kept)
  | inr other ↦
      let up : a ≤ x = r.0 in
      let above : a + 1 ≤ x = grind (arith, up, other) in
      let off : has (x ∷ xs) a ≡ false = false_from_ne_true (has (x ∷ xs) a) (λ h. let low : x ≤ a = rises-least x (x ∷ xs) (omega arith, r.1) a (has-to (x ∷ xs) a h) in omega arith) in
      rises-filter (a + 1) n (x ∷ xs) (above, r.1) (λ z i. omega (arith, few z i))
      ∙ sym (cond-false (has (x ∷ xs) a) (a ∷ filter (has (x ∷ xs)) (range_with_len (a + 1) n)) (filter (has (x ∷ xs)) (range_with_len (a + 1) n)) off)
]
  where
    after : (z : ℕ) → x ≡ a → a + 1 ≤ z → IsIn z (x ∷ xs) → IsIn z xs
    after z here low (inl same) = absurd (omega arith)
    after z here low (inr later) = later

-- a rising list of numbers below n is what it keeps_own of them
pub rising-passing : (n : ℕ) (xs : List ℕ) → IsStrictlyIncreasing xs → ((x : ℕ) → IsIn x xs → x < n) → xs ≡ passing (has xs) n
rising-passing n xs up few = rises-filter 0 n xs (rises-from 0 xs up (λ x i. omega arith)) (λ x i. omega (arith, few x i))

-- the numbers below n that pass rise
pub passing-rises : (p : ℕ → Bool) (n : ℕ) → IsStrictlyIncreasing (passing p n)
passing-rises p n = rises-to 0 (passing p n) (kept 0 n)
  where
    more : (low low' : ℕ) (xs : List ℕ) → low ≤ low' → RisesFrom low' xs → RisesFrom low xs
    more low low' [] h r = tt
    more low low' (x ∷ xs) h r = (omega (arith, h, r.0), r.1)

    kept : (a m : ℕ) → RisesFrom a (filter p (range_with_len a m))
    kept a zero = tt
    kept a (suc m) = elim (cases_Bool (p a)) [
      | inl h ↦ rw h (omega arith, kept (a + 1) m)
      | inr h ↦ rw h (more a (a + 1) (filter p (range_with_len (a + 1) m)) (omega arith) (kept (a + 1) m))
    ]
