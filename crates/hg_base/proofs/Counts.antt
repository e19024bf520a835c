-- Counting numbers below a bound, and the least members of the classes of an equivalence.
use Rattle.std.proofs.Common.{◌≡◌, ◌≢◌, ℕ, zero, suc, ◌+◌, ◌<◌, Bool, true, false, cond, ◌⊎◌, inl, inr, refl, sym, subst, ap, arith}
use Rattle.std.specs.Prelude.{◌==◌}
use Rattle.std.proofs.lemmas.Bool.{cases_Bool, cases_order, eqb-true, eq-eqb}
use Rattle.hg_base.specs.Counting.{count_below, is_least}

-- tests that agree below n count the same
pub count_below-agree : (p q : ℕ → Bool) (n : ℕ) → ((x : ℕ) → x < n → p x ≡ q x) → count_below p n ≡ count_below q n
count_below-agree p q zero h = refl
count_below-agree p q (suc n) h =
    let here : p n ≡ q n = h n (omega arith) in
    let rest : count_below p n ≡ count_below q n = count_below-agree p q n (λ x lt. h x (omega arith)) in
    rw (here, rest) refl

-- a test that everything passes counts all
pub count_below-all : (p : ℕ → Bool) (n : ℕ) → ((x : ℕ) → x < n → p x ≡ true) → count_below p n ≡ n
count_below-all p zero h = refl
count_below-all p (suc n) h =
    let here : p n ≡ true = h n (omega arith) in
    let rest : count_below p n ≡ n = count_below-all p n (λ x lt. h x (omega arith)) in
    rw (here, rest) (omega arith)

-- nothing passes where nothing is counted
pub count_below-none : (p : ℕ → Bool) (n : ℕ) → count_below p n ≡ 0 → (x : ℕ) → x < n → p x ≡ false
count_below-none p zero h x lt = absurd (omega arith)
count_below-none p (suc n) h x lt =
    elim (cases_Bool (p n)) [
      | inl here ↦ absurd (let c : count_below p n + cond (p n) 1 0 ≡ 0 = h in let d : count_below p n + cond true 1 0 ≡ 0 = subst (λ (b : Bool). count_below p n + cond b 1 0 ≡ 0) here c in omega arith)
      | inr not_here ↦ elim (cases_order x n) [
        | inl level ↦ subst (λ (y : ℕ). p y ≡ false) (sym level) not_here
        | inr other ↦ elim other [
          | inl low ↦ count_below-none p n (let c : count_below p n + cond (p n) 1 0 ≡ 0 = h in omega arith) x low
          | inr high ↦ absurd (omega arith)
        ]
      ]
    ]

-- nothing is counted where nothing passes
pub count_below-zero : (p : ℕ → Bool) (n : ℕ) → ((x : ℕ) → x < n → p x ≡ false) → count_below p n ≡ 0
count_below-zero p zero h = refl
count_below-zero p (suc n) h =
    let here : p n ≡ false = h n (omega arith) in
    let rest : count_below p n ≡ 0 = count_below-zero p n (λ x lt. h x (omega arith)) in
    rw (here, rest) refl

-- one number fewer passes
pub count_below-drop : (p q : ℕ → Bool) (m n : ℕ) → m < n → p m ≡ true → q m ≡ false → ((x : ℕ) → x ≢ m → q x ≡ p x) → count_below q n + 1 ≡ count_below p n
count_below-drop p q m zero lt hp hq other = absurd (omega arith)
count_below-drop p q m (suc n) lt hp hq other =
    elim (cases_order m n) [
      | inl level ↦ (let pn : p n ≡ true = subst (λ (y : ℕ). p y ≡ true) level hp in
          let qn : q n ≡ false = subst (λ (y : ℕ). q y ≡ false) level hq in
          let rest : count_below q n ≡ count_below p n = count_below-agree q p n (λ x low. other x (omega arith)) in
          rw (pn, qn, rest) (omega arith))
      | inr unlike ↦ elim unlike [
        | inl low ↦ (let qn : q n ≡ p n = other n (omega arith) in
            let rest : count_below q n + 1 ≡ count_below p n = count_below-drop p q m n low hp hq other in
            rw qn (omega (arith, rest)))
        | inr high ↦ absurd (omega arith)
      ]
    ]

-- the least number below n that passes, or none does
pub record LeastBelow (p : ℕ → Bool) (n : ℕ) : Type 0 where
  pub at : ℕ
  pub low : at < n
  pub passes : p at ≡ true
  pub least : (y : ℕ) → y < at → p y ≡ false

pub least_below : (p : ℕ → Bool) (n : ℕ) → LeastBelow p n ⊎ ((y : ℕ) → y < n → p y ≡ false)
least_below p zero = inr (λ y lt. absurd (omega arith))
least_below p (suc n) =
    elim (least_below p n) [
      | inl l ↦ inl (record { at = l.at; low = let low : l.at < n = l.low in omega arith; passes = l.passes; least = l.least })
      | inr none' ↦ elim (cases_Bool (p n)) [
        | inl here ↦ inl (record { at = n; low = omega arith; passes = here; least = none' })
        | inr not_here ↦ inr (λ y lt. elim (cases_order y n) [
          | inl level ↦ subst (λ (z : ℕ). p z ≡ false) (sym level) not_here
          | inr other ↦ elim other [ inl low ↦ none' y low | inr high ↦ absurd (omega arith) ]
        ])
      ]
    ]

-- `is_least` says that no lesser one is in the class
pub is_least-from : (r : ℕ → ℕ → Bool) (x : ℕ) → ((y : ℕ) → y < x → r x y ≡ false) → is_least r x ≡ true
is_least-from r x h = eq-eqb (count_below (r x) x) 0 (count_below-zero (r x) x h)

pub is_least-to : (r : ℕ → ℕ → Bool) (x : ℕ) → is_least r x ≡ true → (y : ℕ) → y < x → r x y ≡ false
is_least-to r x h = count_below-none (r x) x (eqb-true (count_below (r x) x) 0 h)

pub is_least-agree : (r t : ℕ → ℕ → Bool) → ((x y : ℕ) → r x y ≡ t x y) → (x : ℕ) → is_least r x ≡ is_least t x
is_least-agree r t h x = ap (λ (k : ℕ). k == 0) (count_below-agree (r x) (t x) x (λ y lt. h x y))
