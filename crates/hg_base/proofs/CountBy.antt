-- How many elements of a list pass a test.
use Rattle.std.proofs.Common.{◌≡◌, ℕ, zero, suc, ◌<◌, ◌≤◌, Bool, true, false, cond, List, [], ◌∷◌, length, get_or, count_by, refl, arith}
use Rattle.std.proofs.lemmas.List.Sums.{sum_by-cons, sum_by-le-sum_by}

-- a test that is passed wherever another is counts no fewer
pub count_by-le : {X : Type 0} (p q : X → Bool) → ((x : X) → p x ≡ true → q x ≡ true) → (xs : List X) → count_by p xs ≤ count_by q xs
count_by-le p q wider xs = sum_by-le-sum_by (λ x. cond (p x) 1 0) (λ x. cond (q x) 1 0) xs (λ x. wider_at (p x) (q x) (wider x))
  where
    wider_at : (a b : Bool) → (a ≡ true → b ≡ true) → cond a 1 0 ≤ cond b 1 0
    wider_at true b h = rw (h refl) (omega arith)
    wider_at false b h = omega arith

-- one that also passes an element which the other refuses counts more
pub count_by-lt : {X : Type 0} (p q : X → Bool) → ((x : X) → p x ≡ true → q x ≡ true) → (xs : List X) (i : ℕ) (d : X) → i < length xs → p (get_or xs i d) ≡ false → q (get_or xs i d) ≡ true → count_by p xs < count_by q xs
count_by-lt p q wider [] i d h out within = absurd (omega arith)
count_by-lt p q wider (x ∷ xs) zero d h out within =
    let rest = count_by-le p q wider xs in
    rw (sum_by-cons (λ x. cond (p x) 1 0) x xs, sum_by-cons (λ x. cond (q x) 1 0) x xs, out, within) (omega (arith, rest))
count_by-lt p q wider (x ∷ xs) (suc i) d h out within =
    let rest = count_by-lt p q wider xs i d (omega arith) out within in
    let first = count_by-le p q wider (x ∷ []) in
    rw (sum_by-cons (λ x. cond (p x) 1 0) x xs, sum_by-cons (λ x. cond (q x) 1 0) x xs) (omega (arith, rest, first))

-- where the first k elements pass and the others don't, k pass
pub count_by-is : {X : Type 0} (p : X → Bool) (xs : List X) (k : ℕ) (d : X) → k ≤ length xs → ((j : ℕ) → j < k → p (get_or xs j d) ≡ true) → ((j : ℕ) → k ≤ j → j < length xs → p (get_or xs j d) ≡ false) → count_by p xs ≡ k
count_by-is p [] k d h passes fails = omega arith
count_by-is p (x ∷ xs) zero d h passes fails =
    let rest = count_by-is p xs zero d (omega arith) (λ j l. absurd (omega arith)) (λ j a b. fails (suc j) (omega arith) (omega arith)) in
    rw (sum_by-cons (λ x. cond (p x) 1 0) x xs, fails 0 (omega arith) (omega arith)) (omega (arith, rest))
count_by-is p (x ∷ xs) (suc k) d h passes fails =
    let rest = count_by-is p xs k d (omega arith) (λ j l. passes (suc j) (omega arith)) (λ j a b. fails (suc j) (omega arith) (omega arith)) in
    rw (sum_by-cons (λ x. cond (p x) 1 0) x xs, passes 0 (omega arith)) (omega (arith, rest))
