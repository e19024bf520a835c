-- Counting numbers below a bound: more of them, wider tests, and tests that exclude each other.
use Rattle.std.proofs.Common.{◌≡◌, ℕ, zero, suc, ◌+◌, ◌<◌, ◌≤◌, Bool, true, false, cond, inl, inr, refl, ◌∙◌, arith, add-one}
use Rattle.std.specs.Prelude.{◌||◌}
use Rattle.std.proofs.lemmas.Bool.{cases_order}
use Rattle.hg_base.specs.Counting.{count_below}

one_at_most : (b : Bool) → cond b 1 0 ≤ 1
one_at_most true = omega arith
one_at_most false = omega arith

-- one more number
pub count_below-next : (p : ℕ → Bool) (n : ℕ) → count_below p (n + 1) ≡ count_below p n + cond (p n) 1 0
count_below-next p n = rw add-one refl

-- no more than all are counted
pub count_below-le : (p : ℕ → Bool) (n : ℕ) → count_below p n ≤ n
count_below-le p zero = omega arith
count_below-le p (suc n) = let rest = count_below-le p n in let here = one_at_most (p n) in omega (arith, rest, here)

-- a higher bound counts no fewer
pub count_below-mono : (p : ℕ → Bool) (i n : ℕ) → i ≤ n → count_below p i ≤ count_below p n
count_below-mono p i zero h = let e : i ≡ 0 = omega arith in rw e (omega arith)
count_below-mono p i (suc n) h =
    elim (cases_order i (suc n)) [
      | inl level ↦ rw level (omega arith)
      | inr other ↦ elim other [
        | inl low ↦ (let rest = count_below-mono p i n (omega arith) in omega (arith, rest))
        | inr high ↦ absurd (omega arith)
      ]
    ]

-- a number that passes is counted by each higher bound
pub count_below-step : (p : ℕ → Bool) (i n : ℕ) → i < n → p i ≡ true → count_below p i < count_below p n
count_below-step p i n h passes =
    let more = count_below-mono p (i + 1) n (omega arith) in
    let next : count_below p (i + 1) ≡ count_below p i + 1 = count_below-next p i ∙ rw passes refl in
    omega (arith, more, next)

-- where nothing passes from i on, the bound i counts all
pub count_below-cut : (p : ℕ → Bool) (i n : ℕ) → i ≤ n → ((x : ℕ) → i ≤ x → x < n → p x ≡ false) → count_below p n ≡ count_below p i
count_below-cut p i zero h none = let e : i ≡ 0 = omega arith in rw e refl
count_below-cut p i (suc n) h none =
    elim (cases_order i (suc n)) [
      | inl level ↦ rw level refl
      | inr other ↦ elim other [
        | inl low ↦ (let rest = count_below-cut p i n (omega arith) (λ x a b. none x a (omega arith)) in
            let here : p n ≡ false = none n (omega arith) (omega arith) in rw here (omega (arith, rest)))
        | inr high ↦ absurd (omega arith)
      ]
    ]

or_sum : (b c : Bool) → (b ≡ true → c ≡ true → ⊥) → cond (b || c) 1 0 ≡ cond b 1 0 + cond c 1 0
or_sum true true h = absurd (h refl refl)
or_sum true false h = refl
or_sum false true h = refl
or_sum false false h = refl

-- two tests that exclude each other
pub count_below-or : (p q r : ℕ → Bool) (n : ℕ) → ((x : ℕ) → x < n → r x ≡ (p x || q x)) → ((x : ℕ) → x < n → p x ≡ true → q x ≡ true → ⊥)
    → count_below r n ≡ count_below p n + count_below q n
count_below-or p q r zero both apart = refl
count_below-or p q r (suc n) both apart =
    let rest = count_below-or p q r n (λ x h. both x (omega arith)) (λ x h. apart x (omega arith)) in
    let here = or_sum (p n) (q n) (apart n (omega arith)) in
    let same : r n ≡ (p n || q n) = both n (omega arith) in
    rw same (omega (arith, rest, here))

wider_at : (b c : Bool) → (b ≡ true → c ≡ true) → cond b 1 0 ≤ cond c 1 0
wider_at true c h = rw (h refl) (omega arith)
wider_at false c h = omega arith

-- a wider test counts no fewer
pub count_below-wider : (p q : ℕ → Bool) (n : ℕ) → ((x : ℕ) → x < n → p x ≡ true → q x ≡ true) → count_below p n ≤ count_below q n
count_below-wider p q zero h = omega arith
count_below-wider p q (suc n) h =
    let rest = count_below-wider p q n (λ x l. h x (omega arith)) in
    let here = wider_at (p n) (q n) (h n (omega arith)) in omega (arith, rest, here)
