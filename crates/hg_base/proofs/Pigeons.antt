-- A function that takes each number below n to a different number below m.
use Rattle.std.proofs.Common.{◌≡◌, ℕ, zero, suc, ◌<◌, ◌≤◌, ◌==◌, ◌⊎◌, inl, inr, cond, refl, sym, ◌∙◌, arith}
use Rattle.std.proofs.lemmas.Bool.Decides.{eqb_tells}
use Rattle.hg_base.specs.Counting.{IsOneToOne}

-- f takes each number below n to one below m
abbrev pub Into : (ℕ → ℕ) → ℕ → ℕ → Type 0
Into f n m = (i : ℕ) → i < n → f i < m

-- v is no value of f below n
abbrev pub Misses : (ℕ → ℕ) → ℕ → ℕ → Type 0
Misses f n v = (i : ℕ) → i < n → f i ≡ v → ⊥

-- f with v in place of the value m
abbrev moved : (ℕ → ℕ) → ℕ → ℕ → ℕ → ℕ
moved f m v i = cond (f i == m) v (f i)

moved-cases : (f : ℕ → ℕ) (m v i : ℕ) → ((f i ≡ m) × (moved f m v i ≡ v)) ⊎ ((f i ≡ m → ⊥) × (moved f m v i ≡ f i))
moved-cases f m v i = elim (eqb_tells (f i) m) [
  | inl w ↦ inl (w.1, rw w.0 refl)
  | inr w ↦ inr (w.1, rw w.0 refl)
]

moved-into : (f : ℕ → ℕ) (n m v : ℕ) → Into f n (suc m) → ((i : ℕ) → i < n → f i ≡ m → v < m) → Into (moved f m v) n m
moved-into f n m v into lower i h =
    let within = into i h in
    elim (moved-cases f m v i) [ inl w ↦ omega (arith, lower i h w.0, w.1) | inr w ↦ omega (arith, w.0, w.1) ]

moved-one : (f : ℕ → ℕ) (n m v : ℕ) → IsOneToOne n f → Misses f n v → IsOneToOne n (moved f m v)
moved-one f n m v one missed i j hi hj same =
    elim (moved-cases f m v i) [
      | inl a ↦ elim (moved-cases f m v j) [
        | inl b ↦ one i j hi hj (a.0 ∙ sym b.0)
        | inr b ↦ absurd (missed j hj (sym b.1 ∙ sym same ∙ a.1))
      ]
      | inr a ↦ elim (moved-cases f m v j) [
        | inl b ↦ absurd (missed i hi (sym a.1 ∙ same ∙ b.1))
        | inr b ↦ one i j hi hj (sym a.1 ∙ same ∙ b.1)
      ]
    ]

-- there are at least as many values as arguments
pub pigeonhole : (n m : ℕ) (f : ℕ → ℕ) → Into f n m → IsOneToOne n f → n ≤ m
pigeonhole zero m f into one = omega arith
pigeonhole (suc n) zero f into one = absurd (omega (arith, into n (omega arith)))
pigeonhole (suc n) (suc m) f into one =
    let last : Misses f n (f n) = λ i h same. let e = one i n (omega arith) (omega arith) same in omega arith in
    let lower : (i : ℕ) → i < n → f i ≡ m → f n < m = λ i h at. let apart = last i h in let within = into n (omega arith) in grind arith in
    let fewer = pigeonhole n m (moved f m (f n)) (moved-into f n m (f n) (λ i h. into i (omega arith)) lower)
    (moved-one f n m (f n) (λ i j hi hj. one i j (omega arith) (omega arith)) last) in
    omega (arith, fewer)

-- a function from the numbers below n to themselves, one to one, misses none
pub misses_none : (n : ℕ) (f : ℕ → ℕ) → Into f n n → IsOneToOne n f → (k : ℕ) → k < n → Misses f n k → ⊥
misses_none zero f into one k h missed = omega arith
misses_none (suc m) f into one k h missed =
    let lower : (i : ℕ) → i < suc m → f i ≡ m → k < m = λ i hi at. let apart = missed i hi in grind arith in
    let fewer = pigeonhole (suc m) m (moved f m k) (moved-into f (suc m) m k into lower) (moved-one f (suc m) m k one missed) in
    omega (arith, fewer)
