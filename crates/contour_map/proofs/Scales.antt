-- What scaling keeps.
use Rattle.std.proofs.Common.{◌≡◌, ◌↔◌, ℕ, suc, ◌+◌, ◌*◌, ◌<◌, ◌≤◌, inl, inr, refl, sym, ap, ◌∙◌, subst, arith, List, length, get_or, take, All}
use Rattle.std.specs.Prelude.{nat_le, max}
use Rattle.std.specs.Int.{div_ceil}
use Rattle.std.proofs.lemmas.Bool.{cases_Bool, le-leb}
use Rattle.std.proofs.lemmas.Grind.{div_ceil_times}
use Rattle.std.proofs.lemmas.List.{take_more}
use Rattle.std.proofs.lemmas.List.Elements.{All-push}
use Rattle.std.proofs.lemmas.List.Sums.{fold_more}
use Rattle.std.proofs.Math.Nat.{lt_of_mul-lt-mul_right, suc-mul, zero-mul}
use Rattle.contour_map.specs.Scaling.{scaled, highest, greatest_sample}

-- a value that is scaled by the highest, and rounded up
abbrev share : ℕ → ℕ → ℕ
share high a = div_ceil (a * 65535) high

share-order : (high a b : ℕ) → 0 < high → a ≤ b → share high a ≤ share high b
share-order high a b some low =
    let ra = div_ceil_times (a * 65535) high some in
    let rb = div_ceil_times (b * 65535) high some in
    let one : share high b + 1 ≡ suc (share high b) = omega arith in
    let less : share high a * high < (share high b + 1) * high = rw one (omega (arith, ra.1, rb.0, low, suc-mul (share high b) high)) in
    let under : share high a < share high b + 1 = lt_of_mul-lt-mul_right high less in
    omega (arith, under)

share-most : (high a : ℕ) → 0 < high → a ≤ high → share high a ≤ 65535
share-most high a some low =
    let ra = div_ceil_times (a * 65535) high some in
    let less : share high a * high < 65536 * high = omega (arith, ra.1, low) in
    let under : share high a < 65536 = lt_of_mul-lt-mul_right high less in
    omega (arith, under)

share-highest : (high : ℕ) → 0 < high → 65535 ≤ share high high
share-highest high some =
    let r = div_ceil_times (high * 65535) high some in
    let less : 65534 * high < share high high * high = omega (arith, r.0, some) in
    let over : 65534 < share high high = lt_of_mul-lt-mul_right high less in
    omega (arith, over)

share-none : (high : ℕ) → 0 < high → share high 0 ≡ 0
share-none high some =
    let r = div_ceil_times (0 * 65535) high some in
    let less : share high 0 * high < 1 * high = omega (arith, r.1) in
    let under : share high 0 < 1 = lt_of_mul-lt-mul_right high less in
    omega (arith, under)

share-some : (high a : ℕ) → 0 < high → share high a ≡ 0 → a ≡ 0
share-some high a some none =
    let r = div_ceil_times (a * 65535) high some in
    let zero : share high a * high ≡ 0 = ap (λ (k : ℕ). k * high) none ∙ zero-mul high in
    omega (arith, r.0, zero)

pub scaled-order : (high a b : ℕ) → a ≤ b → scaled high a ≤ scaled high b
scaled-order high a b low =
    elim (cases_Bool (nat_le high 65535)) [
      | inl holds ↦ rw holds low
      | inr fails ↦ rw fails (share-order high a b (grind (arith, fails)) low)
    ]

pub scaled-zero : (high a : ℕ) → (scaled high a ≡ 0) ↔ (a ≡ 0)
scaled-zero high a =
    elim (cases_Bool (nat_le high 65535)) [
      | inl holds ↦ rw holds (λ none. none, λ none. none)
      | inr fails ↦
          let some : 0 < high = grind (arith, fails) in
          rw fails (share-some high a some, λ none. ap (share high) none ∙ share-none high some)
    ]

pub scaled-most : (high a : ℕ) → a ≤ high → scaled high a ≤ 65535
scaled-most high a low =
    elim (cases_Bool (nat_le high 65535)) [
      | inl holds ↦ rw holds (grind (arith, holds, low))
      | inr fails ↦ rw fails (share-most high a (grind (arith, fails)) low)
    ]

pub scaled-same : (high a : ℕ) → high ≤ 65535 → scaled high a ≡ a
scaled-same high a low = rw (le-leb high 65535 low) refl

pub scaled-highest : (high : ℕ) → 65535 < high → scaled high high ≡ 65535
scaled-highest high more =
    elim (cases_Bool (nat_le high 65535)) [
      | inl holds ↦ absurd (grind (arith, holds, more))
      | inr fails ↦ rw fails (omega (arith, share-most high high (omega (arith, more)) (omega arith), share-highest high (omega (arith, more))))
    ]

-- no sample is above the greatest
pub scaled-greatest : (high a : ℕ) → a ≤ high → scaled high a ≤ greatest_sample high
scaled-greatest high a low =
    elim (cases_Bool (nat_le high 65535)) [
      | inl holds ↦ rw holds (omega (arith, low))
      | inr fails ↦ rw fails (share-most high a (grind (arith, fails)) low)
    ]

-- the highest of one value more
pub highest-more : (xs : List ℕ) (i high value new : ℕ) → i < length xs → value ≡ get_or xs i 0 → new ≡ max high value → high ≡ highest (take i xs) → new ≡ highest (take (i + 1) xs)
highest-more xs i high value new low is greater so_far =
    greater ∙ ap (λ (k : ℕ). max k value) so_far ∙ ap (λ (v : ℕ). max (highest (take i xs)) v) is ∙ sym (fold_more max 0 xs i 0 low)

pub most-more : (xs : List ℕ) (i high value new : ℕ) → i < length xs → value ≡ get_or xs i 0 → new ≡ max high value → All (λ v. v ≤ high) (take i xs) → All (λ v. v ≤ new) (take (i + 1) xs)
most-more xs i high value new low is greater all =
    subst (All (λ v. v ≤ new)) (sym (take_more xs i 0 low))
    (All-push (λ v. v ≤ new) (take i xs) (get_or xs i 0) (λ k d within. omega (arith, all k d within, greater)) (omega (arith, greater, is)))
