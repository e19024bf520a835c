-- The numbers below n that pass a test, in rising order: each stands where the count of those before it says.
use Rattle.std.proofs.Common.{◌≡◌, ℕ, zero, suc, ◌+◌, ◌<◌, ◌≤◌, Bool, true, cond, inl, inr, refl, sym, ◌∙◌, subst, ap, arith, List, [], ◌∷◌, ◌++◌, length, length-append}
use Rattle.std.specs.Prelude.{Some, filter, slice_get}
use Rattle.std.specs.List.{range_with_len}
use Rattle.std.proofs.lemmas.Bool.{cases_Bool, cases_lt, cases_order}
use Rattle.std.proofs.lemmas.List.Elements.{filter-append}
use Rattle.hg_base.specs.Counting.{count_below}
use Rattle.hg_base.proofs.Lists.{slice_get-front, slice_get-back}

-- the numbers below n that pass
abbrev pub passing : (ℕ → Bool) → ℕ → List ℕ
passing p n = filter p (range_with_len 0 n)

-- one more number at the end of a range
range-suc : (a n : ℕ) → range_with_len a (suc n) ≡ range_with_len a n ++ (a + n) ∷ []
range-suc a zero = let z : a ≡ a + 0 = omega arith in ap (λ (x : ℕ). x ∷ []) z
range-suc a (suc n) =
    let z : (a + 1) + n ≡ a + suc n = omega arith in
    ap (λ (r : List ℕ). a ∷ r) (range-suc (a + 1) n ∙ ap (λ (x : ℕ). range_with_len (a + 1) n ++ x ∷ []) z)

pub range_to-suc : (n : ℕ) → range_with_len 0 (suc n) ≡ range_with_len 0 n ++ n ∷ []
range_to-suc n = let z : 0 + n ≡ n = omega arith in range-suc 0 n ∙ ap (λ (x : ℕ). range_with_len 0 n ++ x ∷ []) z

-- the next number passes or not
pub passing-suc : (p : ℕ → Bool) (n : ℕ) → passing p (suc n) ≡ passing p n ++ cond (p n) (n ∷ []) []
passing-suc p n = ap (filter p) (range_to-suc n) ∙ filter-append p (range_with_len 0 n) (n ∷ [])

-- they are as many as are counted
pub length-passing : (p : ℕ → Bool) (n : ℕ) → length (passing p n) ≡ count_below p n
length-passing p zero = refl
length-passing p (suc n) =
    ap (λ (xs : List ℕ). length xs) (passing-suc p n)
    ∙ length-append (passing p n) (cond (p n) (n ∷ []) [])
    ∙ rw (length-passing p n) (elim (cases_Bool (p n)) [ inl passes ↦ rw passes refl | inr off ↦ rw off refl ])

-- counts don't fall
pub count_below-grows : (p : ℕ → Bool) (i n : ℕ) → i ≤ n → count_below p i ≤ count_below p n
count_below-grows p i zero h = let e : i ≡ 0 = omega arith in rw e (omega arith)
count_below-grows p i (suc n) h =
    elim (cases_order i (suc n)) [
      | inl level ↦ rw level (omega arith)
      | inr other ↦ elim other [
        | inl low ↦ omega (arith, count_below-grows p i n (omega arith))
        | inr high ↦ absurd (omega arith)
      ]
    ]

-- and rise past a number that passes
pub count_below-rises : (p : ℕ → Bool) (i n : ℕ) → i < n → p i ≡ true → count_below p i < count_below p n
count_below-rises p i n h passes =
    let step : count_below p (suc i) ≡ count_below p i + 1 = rw passes refl in
    omega (arith, step, count_below-grows p (suc i) n h)

-- no more are counted than there are
pub count_below-most : (p : ℕ → Bool) (n : ℕ) → count_below p n ≤ n
count_below-most p zero = omega arith
count_below-most p (suc n) =
    let rest = count_below-most p n in
    elim (cases_Bool (p n)) [ inl passes ↦ rw passes (omega (arith, rest)) | inr off ↦ rw off (omega (arith, rest)) ]

-- numbers that pass have different counts before them
pub count_below-one : (p : ℕ → Bool) (i j : ℕ) → p i ≡ true → p j ≡ true → count_below p i ≡ count_below p j → i ≡ j
count_below-one p i j hi hj same =
    elim (cases_order i j) [
      | inl level ↦ level
      | inr other ↦ elim other [
        | inl low ↦ absurd (omega (arith, same, count_below-rises p i j low hi))
        | inr high ↦ absurd (omega (arith, same, count_below-rises p j i high hj))
      ]
    ]

-- a number that passes stands at the count of those before it
pub passing-at : (p : ℕ → Bool) (n i : ℕ) → i < n → p i ≡ true → slice_get (passing p n) (count_below p i) ≡ Some i
passing-at p zero i h passes = absurd (omega arith)
passing-at p (suc n) i h passes =
    ap (λ (xs : List ℕ). slice_get xs (count_below p i)) (passing-suc p n)
    ∙ elim (cases_lt i n) [
      | inl low ↦
          slice_get-front (passing p n) (cond (p n) (n ∷ []) []) (count_below p i) (omega (arith, length-passing p n, count_below-rises p i n low passes))
          ∙ passing-at p n i low passes
      | inr last ↦
          let level : n ≡ i = omega arith in
          let here : p n ≡ true = subst (λ (j : ℕ). p j ≡ true) (sym level) passes in
          slice_get-back (passing p n) (cond (p n) (n ∷ []) []) 0 (count_below p i) (let same = ap (count_below p) level in omega (arith, length-passing p n, same))
          ∙ rw here (ap (λ (j : ℕ). Some j) level)
    ]

-- what stands at a place passes, is below n, and has so many before it
pub record IsPassing (p : ℕ → Bool) (n j i : ℕ) : Type 0 where
  pub low : i < n
  pub passes : p i ≡ true
  pub place : count_below p i ≡ j

pub passing-index : (p : ℕ → Bool) (n j : ℕ) → j < length (passing p n) → (i : ℕ) × IsPassing p n j i
passing-index p zero j h = absurd (omega arith)
passing-index p (suc n) j h =
    elim (cases_lt j (length (passing p n))) [
      | inl low ↦
          let before = passing-index p n j low in
          (before.0, record { low = let l : before.0 < n = before.1.low in omega arith; passes = before.1.passes; place = before.1.place })
      | inr high ↦ elim (cases_Bool (p n)) [
        | inl here ↦
            let one : count_below p (suc n) ≡ count_below p n + 1 = rw here refl in
            (n, record { low = omega arith; passes = here; place = omega (arith, one, high, h, length-passing p n, length-passing p (suc n)) })
        | inr off ↦
            let none' : count_below p (suc n) ≡ count_below p n + 0 = rw off refl in
            absurd (omega (arith, none', high, h, length-passing p n, length-passing p (suc n)))
      ]
    ]
