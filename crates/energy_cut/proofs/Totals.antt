-- Sums over the numbers below n that pass a test.
use Rattle.std.proofs.Common.{◌≡◌, ℕ, zero, suc, ◌+◌, ◌*◌, ◌<◌, ◌≤◌, Bool, true, false, cond, inl, inr, refl, sym, ◌∙◌, ap, arith, [], ◌∷◌}
use Rattle.std.specs.Prelude.{◌⊎◌}
use Rattle.std.specs.List.{sum_by}
use Rattle.std.proofs.lemmas.Bool.{cases_Bool, cases_lt, cases_eq}
use Rattle.std.proofs.lemmas.List.Sums.{sum_by-append}
use Rattle.hg_base.proofs.Passing.{passing, passing-suc}

-- the sum of the values of the numbers below n that pass
abbrev pub total : (ℕ → Bool) → (ℕ → ℕ) → ℕ → ℕ
total p f zero = 0
total p f (suc n) = total p f n + cond (p n) (f n) 0

-- one more number passes or not
pub total-pass : (p : ℕ → Bool) (f : ℕ → ℕ) (n : ℕ) → p n ≡ true → total p f (suc n) ≡ total p f n + f n
total-pass p f n h = rw h refl

pub total-skip : (p : ℕ → Bool) (f : ℕ → ℕ) (n : ℕ) → p n ≡ false → total p f (suc n) ≡ total p f n
total-skip p f n h = rw h (omega arith)

-- it is the sum over the list of those that pass
pub sum-passing : (p : ℕ → Bool) (f : ℕ → ℕ) (n : ℕ) → sum_by f (passing p n) ≡ total p f n
sum-passing p f zero = refl
sum-passing p f (suc n) =
    ap (sum_by f) (passing-suc p n)
    ∙ sum_by-append f (passing p n) (cond (p n) (n ∷ []) [])
    ∙ ap (λ (k : ℕ). k + sum_by f (cond (p n) (n ∷ []) [])) (sum-passing p f n)
    ∙ ap (λ (k : ℕ). total p f n + k) (elim (cases_Bool (p n)) [ inl h ↦ rw h (omega arith) | inr h ↦ rw h refl ])

-- tests and values that agree give the same
pub total-agree : (p q : ℕ → Bool) (f g : ℕ → ℕ) (n : ℕ) → ((j : ℕ) → j < n → p j ≡ q j) → ((j : ℕ) → j < n → p j ≡ true → f j ≡ g j) → total p f n ≡ total q g n
total-agree p q f g zero tests values = refl
total-agree p q f g (suc n) tests values =
    let rest : total p f n ≡ total q g n = total-agree p q f g n (λ j l. tests j (omega arith)) (λ j l. values j (omega arith)) in
    elim (cases_Bool (p n)) [
      | inl h ↦ total-pass p f n h
          ∙ ap (λ (k : ℕ). k + f n) rest
          ∙ ap (λ (k : ℕ). total q g n + k) (values n (omega arith) h)
          ∙ sym (total-pass q g n (sym (tests n (omega arith)) ∙ h))
      | inr h ↦ total-skip p f n h ∙ rest ∙ sym (total-skip q g n (sym (tests n (omega arith)) ∙ h))
    ]

-- where nothing passes there is nothing to sum
pub total-none : (p : ℕ → Bool) (f : ℕ → ℕ) (n : ℕ) → ((j : ℕ) → j < n → p j ≡ false) → total p f n ≡ 0
total-none p f zero none' = refl
total-none p f (suc n) none' = total-skip p f n (none' n (omega arith)) ∙ total-none p f n (λ j l. none' j (omega arith))

-- nor where all values are 0
pub total-flat : (p : ℕ → Bool) (f : ℕ → ℕ) (n : ℕ) → ((j : ℕ) → j < n → p j ≡ true → f j ≡ 0) → total p f n ≡ 0
total-flat p f zero flat = refl
total-flat p f (suc n) flat =
    let rest : total p f n ≡ 0 = total-flat p f n (λ j l. flat j (omega arith)) in
    elim (cases_Bool (p n)) [
      | inl h ↦ let last : f n ≡ 0 = flat n (omega arith) h in let e : total p f (suc n) ≡ total p f n + f n = total-pass p f n h in omega arith
      | inr h ↦ total-skip p f n h ∙ rest
    ]

-- r passes where exactly one of p and q does
abbrev pub IsSplit : Bool → Bool → Bool → Type 0
IsSplit p q r = ((p ≡ true) × (q ≡ false) × (r ≡ true)) ⊎ (((p ≡ false) × (q ≡ true) × (r ≡ true)) ⊎ ((p ≡ false) × (q ≡ false) × (r ≡ false)))

-- parts that don't meet sum to the whole
pub total-split : (p q r : ℕ → Bool) (f : ℕ → ℕ) (n : ℕ) → ((j : ℕ) → j < n → IsSplit (p j) (q j) (r j)) → total r f n ≡ total p f n + total q f n
total-split p q r f zero split = refl
total-split p q r f (suc n) split =
    let rest : total r f n ≡ total p f n + total q f n = total-split p q r f n (λ j l. split j (omega arith)) in
    elim (split n (omega arith)) [
      | inl first ↦
          let a : total p f (suc n) ≡ total p f n + f n = total-pass p f n first.0 in
          let b : total q f (suc n) ≡ total q f n = total-skip q f n first.1 in
          let d : total r f (suc n) ≡ total r f n + f n = total-pass r f n first.2 in
          omega arith
      | inr other ↦ elim other [
        | inl second ↦
            let a : total p f (suc n) ≡ total p f n = total-skip p f n second.0 in
            let b : total q f (suc n) ≡ total q f n + f n = total-pass q f n second.1 in
            let d : total r f (suc n) ≡ total r f n + f n = total-pass r f n second.2 in
            omega arith
        | inr neither ↦
            let a : total p f (suc n) ≡ total p f n = total-skip p f n neither.0 in
            let b : total q f (suc n) ≡ total q f n = total-skip q f n neither.1 in
            let d : total r f (suc n) ≡ total r f n = total-skip r f n neither.2 in
            omega arith
      ]
    ]

-- fewer numbers with lesser values have a lesser sum
pub total-le : (p q : ℕ → Bool) (f g : ℕ → ℕ) (n : ℕ) → ((j : ℕ) → j < n → p j ≡ true → q j ≡ true) → ((j : ℕ) → j < n → f j ≤ g j) → total p f n ≤ total q g n
total-le p q f g zero tests values = omega arith
total-le p q f g (suc n) tests values =
    let rest : total p f n ≤ total q g n = total-le p q f g n (λ j l. tests j (omega arith)) (λ j l. values j (omega arith)) in
    let last : f n ≤ g n = values n (omega arith) in
    elim (cases_Bool (p n)) [
      | inl h ↦
          let a : total p f (suc n) ≡ total p f n + f n = total-pass p f n h in
          let b : total q g (suc n) ≡ total q g n + g n = total-pass q g n (tests n (omega arith) h) in
          omega arith
      | inr h ↦
          let a : total p f (suc n) ≡ total p f n = total-skip p f n h in
          elim (cases_Bool (q n)) [
            | inl k ↦ let b : total q g (suc n) ≡ total q g n + g n = total-pass q g n k in omega arith
            | inr k ↦ let b : total q g (suc n) ≡ total q g n = total-skip q g n k in omega arith
          ]
    ]

-- where greater values don't sum to more, they are equal
pub total-tight : (p : ℕ → Bool) (f g : ℕ → ℕ) (n : ℕ) → ((j : ℕ) → j < n → f j ≤ g j) → total p g n ≤ total p f n → (j : ℕ) → j < n → p j ≡ true → f j ≡ g j
total-tight p f g zero values h j l passes = absurd (omega arith)
total-tight p f g (suc n) values h j l passes =
    let rest : total p f n ≤ total p g n = total-le p p f g n (λ i m t. t) (λ i m. values i (omega arith)) in
    let last : f n ≤ g n = values n (omega arith) in
    elim (cases_eq j n) [
      | inl level ↦
          let here : p n ≡ true = ap p (sym level) ∙ passes in
          let a : total p f (suc n) ≡ total p f n + f n = total-pass p f n here in
          let b : total p g (suc n) ≡ total p g n + g n = total-pass p g n here in
          let e : f n ≡ g n = omega arith in
          ap f level ∙ e ∙ ap g (sym level)
      | inr other ↦ total-tight p f g n (λ i m. values i (omega arith)) (elim (cases_Bool (p n)) [
        | inl here ↦
            let a : total p f (suc n) ≡ total p f n + f n = total-pass p f n here in
            let b : total p g (suc n) ≡ total p g n + g n = total-pass p g n here in
            omega arith
        | inr off ↦
            let a : total p f (suc n) ≡ total p f n = total-skip p f n off in
            let b : total p g (suc n) ≡ total p g n = total-skip p g n off in
            omega arith
      ]) j (grind (arith, l, other)) passes
    ]

-- numbers that don't pass add nothing at the end
pub total-cut : (p : ℕ → Bool) (f : ℕ → ℕ) (k n : ℕ) → k ≤ n → ((j : ℕ) → k ≤ j → j < n → p j ≡ false) → total p f n ≡ total p f k
total-cut p f k zero h off = let e : k ≡ 0 = omega arith in ap (total p f) (sym e)
total-cut p f k (suc n) h off =
    elim (cases_lt n k) [
      | inl level ↦ let e : suc n ≡ k = omega arith in ap (total p f) e
      | inr low ↦ total-skip p f n (off n low (omega arith)) ∙ total-cut p f k n low (λ j a b. off j a (omega arith))
    ]

-- a sum of small values is small
pub total-small : (p : ℕ → Bool) (f : ℕ → ℕ) (b n : ℕ) → ((j : ℕ) → j < n → f j ≤ b) → total p f n ≤ n * b
total-small p f b zero small = omega arith
total-small p f b (suc n) small =
    let rest : total p f n ≤ n * b = total-small p f b n (λ j l. small j (omega arith)) in
    let last : f n ≤ b = small n (omega arith) in
    let e : suc n * b ≡ n * b + b = omega arith in
    elim (cases_Bool (p n)) [
      | inl h ↦ let a : total p f (suc n) ≡ total p f n + f n = total-pass p f n h in omega arith
      | inr h ↦ let a : total p f (suc n) ≡ total p f n = total-skip p f n h in omega arith
    ]
