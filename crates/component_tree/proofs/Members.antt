-- The numbers that pass a test, as a list: who is in it, its first, and when two are one.
use Rattle.std.proofs.Common.{◌≡◌, ℕ, zero, suc, ◌+◌, ◌<◌, ◌≤◌, Bool, true, false, inl, inr, refl, sym, ◌∙◌, subst, ap, arith, List, ◌∷◌, get_or}
use Rattle.std.specs.Prelude.{Some, filter, slice_get}
use Rattle.std.specs.List.{range_with_len}
use Rattle.std.proofs.lemmas.Bool.{cases_Bool, cases_order}
use Rattle.std.proofs.lemmas.Option.{get_or_from_slice_get}
use Rattle.hg_base.specs.Lists.{IsIn}
use Rattle.edge_laws.proofs.Sets.{same_test}
use Rattle.hg_base.proofs.Lists.{IsIn-filter, IsIn-kept}
use Rattle.hg_base.proofs.Counts.{count_below-zero}
use Rattle.hg_base.proofs.Passing.{passing, passing-at}

-- the numbers from a on are in their range
pub IsIn-from : (a n y : ℕ) → a ≤ y → y < a + n → IsIn y (range_with_len a n)
IsIn-from a zero y low high = absurd (omega arith)
IsIn-from a (suc n) y low high =
    elim (cases_order a y) [
      | inl level ↦ inl level
      | inr other ↦ elim other [ inl later ↦ inr (IsIn-from (a + 1) n y (omega arith) (omega arith)) | inr before ↦ absurd (omega arith) ]
    ]

pub record IsBetween (a b y : ℕ) : Type 0 where
  pub low : a ≤ y
  pub high : y < b

pub IsIn-range : (a n y : ℕ) → IsIn y (range_with_len a n) → IsBetween a (a + n) y
IsIn-range a zero y i = absurd i
IsIn-range a (suc n) y (inl same) = record { low = omega arith; high = omega arith }
IsIn-range a (suc n) y (inr later) =
    let p = IsIn-range (a + 1) n y later in
    let low : a + 1 ≤ y = p.low in let high : y < a + 1 + n = p.high in record { low = omega arith; high = omega arith }

-- y is below n and passes
pub record Passes (p : ℕ → Bool) (n y : ℕ) : Type 0 where
  pub low : y < n
  pub passes : p y ≡ true

pub IsIn-passing : (p : ℕ → Bool) (n y : ℕ) → IsIn y (passing p n) → Passes p n y
IsIn-passing p n y i =
    let k = IsIn-kept p y (range_with_len 0 n) i in
    let b = IsIn-range 0 n y k.1 in
    let high : y < 0 + n = b.high in record { low = omega arith; passes = k.0 }

pub passing-in : (p : ℕ → Bool) (n y : ℕ) → Passes p n y → IsIn y (passing p n)
passing-in p n y h = let low : y < n = h.low in IsIn-filter p y (range_with_len 0 n) h.passes (IsIn-from 0 n y (omega arith) (omega arith))

-- tests that agree below n let the same numbers pass
passing_from : (p q : ℕ → Bool) (a n : ℕ) → ((y : ℕ) → a ≤ y → y < a + n → p y ≡ q y) → filter p (range_with_len a n) ≡ filter q (range_with_len a n)
passing_from p q a zero h = refl
passing_from p q a (suc n) h =
    let rest = passing_from p q (a + 1) n (λ y low high. h y (omega arith) (omega arith)) in
    let here : p a ≡ q a = h a (omega arith) (omega arith) in
    elim (cases_Bool (q a)) [
      | inl passes ↦ rw (here ∙ passes, passes) (ap (λ (l : List ℕ). a ∷ l) rest)
      | inr off ↦ rw (here ∙ off, off) rest
    ]

pub passing-agree : (p q : ℕ → Bool) (n : ℕ) → ((y : ℕ) → y < n → p y ≡ q y) → passing p n ≡ passing q n
passing-agree p q n h = passing_from p q 0 n (λ y low high. h y (omega arith))

-- and where the lists are one, the tests agree
pub passing-same : (p q : ℕ → Bool) (n : ℕ) → passing p n ≡ passing q n → (y : ℕ) → y < n → p y ≡ q y
passing-same p q n same y h =
    same_test (p y) (q y)
    (λ t. (IsIn-passing q n y (subst (λ (l : List ℕ). IsIn y l) same (passing-in p n y (record { low = h; passes = t })))).passes)
    (λ t. (IsIn-passing p n y (subst (λ (l : List ℕ). IsIn y l) (sym same) (passing-in q n y (record { low = h; passes = t })))).passes)

-- the first of the list is the least number that passes
pub passing-first : (p : ℕ → Bool) (n m : ℕ) → m < n → p m ≡ true → ((y : ℕ) → y < m → p y ≡ false) → get_or (passing p n) 0 0 ≡ m
passing-first p n m h passes before =
    get_or_from_slice_get (passing p n) 0 m 0 (subst (λ (k : ℕ). slice_get (passing p n) k ≡ Some m) (count_below-zero p m before) (passing-at p n m h passes))
