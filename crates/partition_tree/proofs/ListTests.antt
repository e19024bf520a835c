-- Tests of lists: whether an element passes, and whether each does; and which numbers a range has.
use Rattle.std.proofs.Common.{◌≡◌, ℕ, zero, suc, ◌+◌, ◌<◌, ◌≤◌, Bool, true, inl, inr, refl, sym, subst, arith, List, [], ◌∷◌}
use Rattle.std.specs.List.{range_with_len, list_any, list_all}
use Rattle.std.proofs.lemmas.Bool.{cases_eq, or_cases, or_left, or_right, and_parts, and_from, false≢true}
use Rattle.hg_base.specs.Lists.{IsIn}

-- an element that passes
pub any-from : {X : Type 0} (p : X → Bool) (x : X) (xs : List X) → IsIn x xs → p x ≡ true → list_any p xs ≡ true
any-from {X} p x [] i h = absurd i
any-from {X} p x (y ∷ ys) (inl same) h = or_left (p y) (list_any p ys) (subst (λ (z : X). p z ≡ true) (sym same) h)
any-from {X} p x (y ∷ ys) (inr later) h = or_right (p y) (list_any p ys) (any-from p x ys later h)

pub any-to : {X : Type 0} (p : X → Bool) (xs : List X) → list_any p xs ≡ true → (x : X) × (IsIn x xs × (p x ≡ true))
any-to {X} p [] h = absurd (false≢true h)
any-to {X} p (y ∷ ys) h = elim (or_cases (p y) (list_any p ys) h) [
  | inl first ↦ (y, (inl refl, first))
  | inr later ↦ let rest = any-to p ys later in (rest.0, (inr rest.1.0, rest.1.1))
]

-- each element passes
pub all-from : {X : Type 0} (p : X → Bool) (xs : List X) → ((x : X) → IsIn x xs → p x ≡ true) → list_all p xs ≡ true
all-from {X} p [] h = refl
all-from {X} p (y ∷ ys) h = and_from (p y) (list_all p ys) (h y (inl refl)) (all-from p ys (λ x i. h x (inr i)))

pub all-to : {X : Type 0} (p : X → Bool) (xs : List X) → list_all p xs ≡ true → (x : X) → IsIn x xs → p x ≡ true
all-to {X} p [] h x i = absurd i
all-to {X} p (y ∷ ys) h x (inl same) = subst (λ (z : X). p z ≡ true) same (and_parts (p y) (list_all p ys) h).0
all-to {X} p (y ∷ ys) h x (inr later) = all-to p ys (and_parts (p y) (list_all p ys) h).1 x later

-- the numbers of a range
pub range-to : (a n x : ℕ) → IsIn x (range_with_len a n) → (a ≤ x) × (x < a + n)
range-to a zero x i = absurd i
range-to a (suc n) x (inl same) = (omega arith, omega arith)
range-to a (suc n) x (inr later) = let r = range-to (a + 1) n x later in (omega (arith, r.0), omega (arith, r.1))

pub range-from : (a n x : ℕ) → a ≤ x → x < a + n → IsIn x (range_with_len a n)
range-from a zero x low high = absurd (omega arith)
range-from a (suc n) x low high = elim (cases_eq a x) [
  | inl level ↦ inl level
  | inr other ↦ inr (range-from (a + 1) n x (grind (arith, low, other)) (omega arith))
]
