-- What is in a list, and what stands at its places.
use Rattle.std.proofs.Common.{◌≡◌, ℕ, ◌<◌, Bool, true, false, cond, ◌⊎◌, inl, inr, refl, sym, subst, ap, arith, List, [], ◌∷◌, zero, suc, ◌+◌, ◌++◌, length, ◌≤◌, map}
use Rattle.std.specs.Prelude.{filter, Some, slice_get, replicate}
use Rattle.std.proofs.lemmas.Bool.{cases_Bool, cases_order}
use Rattle.hg_base.specs.Lists.{IsIn}
use Rattle.std.specs.List.{range_with_len}

-- what is in the list and passes the test is in what the filter keeps
pub IsIn-filter : {X : Type 0} (p : X → Bool) (x : X) (xs : List X) → p x ≡ true → IsIn x xs → IsIn x (filter p xs)
IsIn-filter {X} p x [] h i = absurd i
IsIn-filter {X} p x (y ∷ ys) h (inl same) =
    let passes : p y ≡ true = subst (λ (z : X). p z ≡ true) (sym same) h in
    subst (λ (b : Bool). IsIn x (cond b (y ∷ filter p ys) (filter p ys))) (sym passes) (inl same)
IsIn-filter {X} p x (y ∷ ys) h (inr later) =
    elim (p y) as (λ b. IsIn x (cond b (y ∷ filter p ys) (filter p ys)))
    [ true ↦ inr (IsIn-filter p x ys h later) | false ↦ IsIn-filter p x ys h later ]

-- what the filter keeps passes the test and is in the list
pub IsIn-kept : {X : Type 0} (p : X → Bool) (x : X) (xs : List X) → IsIn x (filter p xs) → (p x ≡ true) × IsIn x xs
IsIn-kept {X} p x [] i = absurd i
IsIn-kept {X} p x (y ∷ ys) i =
    elim (cases_Bool (p y)) [
      | inl kept ↦ (let j : IsIn x (y ∷ filter p ys) = subst (λ (b : Bool). IsIn x (cond b (y ∷ filter p ys) (filter p ys))) kept i in
          elim j [
            | inl same ↦ (subst (λ (z : X). p z ≡ true) same kept, inl same)
            | inr later ↦ (let k = IsIn-kept p x ys later in (k.0, inr k.1))
          ])
      | inr dropped ↦ (let j : IsIn x (filter p ys) = subst (λ (b : Bool). IsIn x (cond b (y ∷ filter p ys) (filter p ys))) dropped i in
          let k = IsIn-kept p x ys j in (k.0, inr k.1))
    ]

-- a list that holds nothing is empty
pub nothing-in : {X : Type 0} (s : List X) → ((e : X) → IsIn e s → ⊥) → s ≡ []
nothing-in [] h = refl
nothing-in (e ∷ s) h = absurd (h e (inl refl))

-- what is in either of two lists is in the two put together
pub IsIn-append : {X : Type 0} (x : X) (s t : List X) → IsIn x s ⊎ IsIn x t → IsIn x (s ++ t)
IsIn-append x [] t (inl i) = absurd i
IsIn-append x [] t (inr j) = j
IsIn-append x (y ∷ s) t (inl (inl same)) = inl same
IsIn-append x (y ∷ s) t (inl (inr i)) = inr (IsIn-append x s t (inl i))
IsIn-append x (y ∷ s) t (inr j) = inr (IsIn-append x s t (inr j))

pub IsIn-append_back : {X : Type 0} (x : X) (s t : List X) → IsIn x (s ++ t) → IsIn x s ⊎ IsIn x t
IsIn-append_back x [] t i = inr i
IsIn-append_back x (y ∷ s) t (inl same) = inl (inl same)
IsIn-append_back x (y ∷ s) t (inr i) =
    elim (IsIn-append_back x s t i) as (λ _. IsIn x (y ∷ s) ⊎ IsIn x t) [ inl j ↦ inl (inr j) | inr j ↦ inr j ]

-- the numbers of a range
pub IsIn-range : (a n y : ℕ) → a ≤ y → y < a + n → IsIn y (range_with_len a n)
IsIn-range a zero y low high = absurd (omega arith)
IsIn-range a (suc n) y low high =
    elim (cases_order a y) [
      | inl level ↦ inl level
      | inr other ↦ elim other [ inl later ↦ inr (IsIn-range (a + 1) n y (omega arith) (omega arith)) | inr before ↦ absurd (omega arith) ]
    ]

pub IsIn-range_below : (a n y : ℕ) → IsIn y (range_with_len a n) → y < a + n
IsIn-range_below a zero y i = absurd i
IsIn-range_below a (suc n) y (inl same) = omega arith
IsIn-range_below a (suc n) y (inr later) = let high = IsIn-range_below (a + 1) n y later in omega arith

-- what is in the values of a function at the numbers from a on
pub IsIn-values : {X : Type 0} (f : ℕ → X) (a n : ℕ) (x : X) → IsIn x (map f (range_with_len a n)) → (k : ℕ) × ((a ≤ k) × ((k < a + n) × (f k ≡ x)))
IsIn-values f a zero x i = absurd i
IsIn-values f a (suc n) x (inl same) = (a, (omega arith, (omega arith, same)))
IsIn-values f a (suc n) x (inr later) =
    let p = IsIn-values f (a + 1) n x later in (p.0, (let low : a + 1 ≤ p.0 = p.1.0 in omega arith, (let high : p.0 < a + 1 + n = p.1.1.0 in omega arith, p.1.1.1)))

-- each value at the numbers from a on is among them
pub IsIn-value : {X : Type 0} (f : ℕ → X) (a n k : ℕ) → a ≤ k → k < a + n → IsIn (f k) (map f (range_with_len a n))
IsIn-value f a zero k low high = absurd (omega arith)
IsIn-value {X} f a (suc n) k low high =
    elim (cases_order a k) [
      | inl level ↦ inl (ap f level)
      | inr other ↦ elim other [
        | inl later ↦ inr (IsIn-value f (a + 1) n k (omega arith) (omega arith))
        | inr before ↦ absurd (omega arith)
      ]
    ]

-- a place in the first of two lists
pub slice_get-front : {X : Type 0} (xs ys : List X) (i : ℕ) → i < length xs → slice_get (xs ++ ys) i ≡ slice_get xs i
slice_get-front [] ys i h = absurd (omega arith)
slice_get-front (x ∷ xs) ys zero h = refl
slice_get-front (x ∷ xs) ys (suc i) h = slice_get-front xs ys i (omega arith)

-- a place in the second of two lists
pub slice_get-back : {X : Type 0} (xs ys : List X) (i k : ℕ) → k ≡ length xs + i → slice_get (xs ++ ys) k ≡ slice_get ys i
slice_get-back [] ys i k h = ap (slice_get ys) (omega arith)
slice_get-back (x ∷ xs) ys i zero h = absurd (omega arith)
slice_get-back (x ∷ xs) ys i (suc k) h = slice_get-back xs ys i k (omega arith)

-- the values of a function at the numbers from a on
pub slice_get-values : {X : Type 0} (f : ℕ → X) (a n i j : ℕ) → i < n → a + i ≡ j → slice_get (map f (range_with_len a n)) i ≡ Some (f j)
slice_get-values f a zero i j h e = absurd (omega arith)
slice_get-values f a (suc n) zero j h e = let same : a ≡ j = omega arith in ap (λ (x : ℕ). Some (f x)) same
slice_get-values f a (suc n) (suc i) j h e = slice_get-values f (a + 1) n i j (omega arith) (omega arith)

-- the values of a function at the elements of a list
pub slice_get-mapped : {X Y : Type 0} (f : X → Y) (xs : List X) (i : ℕ) (x : X) → slice_get xs i ≡ Some x → slice_get (map f xs) i ≡ Some (f x)
slice_get-mapped {X} f [] i x h = absurd (cc)
slice_get-mapped {X} f (y ∷ ys) zero x h = let same : y ≡ x = cc in ap (λ (z : X). Some (f z)) same
slice_get-mapped {X} f (y ∷ ys) (suc i) x h = slice_get-mapped f ys i x h

-- an element at each place below the length
pub slice_get-some : {X : Type 0} (xs : List X) (i : ℕ) → i < length xs → (x : X) × (slice_get xs i ≡ Some x)
slice_get-some [] i h = absurd (omega arith)
slice_get-some (x ∷ xs) zero h = (x, refl)
slice_get-some (x ∷ xs) (suc i) h = slice_get-some xs i (omega arith)

-- each of n copies is the same
pub slice_get-replicated : (c n i : ℕ) → i < n → slice_get (replicate n c) i ≡ Some c
slice_get-replicated c zero i h = absurd (omega arith)
slice_get-replicated c (suc n) zero h = refl
slice_get-replicated c (suc n) (suc i) h = slice_get-replicated c n i (omega arith)
