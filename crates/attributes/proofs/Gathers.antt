-- Values put together over the numbers that pass a test.
use Rattle.std.proofs.Common.{◌≡◌, ℕ, zero, suc, ◌+◌, ◌<◌, ◌≤◌, ◌^◌, Bool, true, false, cond, ◌⊎◌, inl, inr, refl, sym, ◌∙◌, subst, ap, arith, List, [], ◌∷◌, ◌++◌, append-nil, map}
use Rattle.std.specs.Prelude.{min}
use Rattle.std.specs.List.{range_with_len, fold}
use Rattle.std.proofs.lemmas.Bool.{cases_Bool, cases_eq, false_from_ne_true}
use Rattle.std.proofs.lemmas.List.{map-append}
use Rattle.std.proofs.lemmas.List.Sums.{fold_push}
use Rattle.hg_base.proofs.Passing.{passing, passing-suc, range_to-suc}
use Rattle.attributes.specs.declared.gather.Operation.{Operation}
use Rattle.attributes.specs.declared.gather.Operation.TheVariants as operations
use Rattle.attributes.specs.Gathering.{combined, neutral, gathered}

-- the order of three values doesn't matter
combined-assoc : (op : Operation) (a b d : ℕ) → combined op (combined op a b) d ≡ combined op a (combined op b d)
combined-assoc operations.Sum a b d = omega arith
combined-assoc operations.Least a b d = omega arith

-- nor that of two
combined-comm : (op : Operation) (a b : ℕ) → combined op a b ≡ combined op b a
combined-comm operations.Sum a b = omega arith
combined-comm operations.Least a b = omega arith

-- so two values that come after another may change places
combined-swap : (op : Operation) (a b d : ℕ) → combined op (combined op a b) d ≡ combined op (combined op a d) b
combined-swap op a b d = combined-assoc op a b d ∙ ap (combined op a) (combined-comm op b d) ∙ sym (combined-assoc op a d b)

-- the neutral value changes no number of 64 bits
combined-neutral : (op : Operation) (a : ℕ) → a < 2 ^ 64 → combined op (neutral op) a ≡ a
combined-neutral operations.Sum a h = omega arith
combined-neutral operations.Least a h = omega arith

-- it is itself such a number
neutral-fits : (op : Operation) → neutral op < 2 ^ 64
neutral-fits operations.Sum = omega arith
neutral-fits operations.Least = omega arith

-- equal values put together are equal
combined-both : (op : Operation) (a b d e : ℕ) → a ≡ d → b ≡ e → combined op a b ≡ combined op d e
combined-both op a b d e p q = ap (λ (x : ℕ). combined op x b) p ∙ ap (combined op d) q

-- one more number passes or not
pub gathered-pass : (op : Operation) (f : ℕ → ℕ) (p : ℕ → Bool) (n : ℕ) → p n ≡ true → gathered op f (passing p (suc n)) ≡ combined op (gathered op f (passing p n)) (f n)
gathered-pass op f p n passes =
    ap (gathered op f) (passing-suc p n ∙ ap (λ (b : Bool). passing p n ++ cond b (n ∷ []) []) passes)
    ∙ ap (fold (combined op) (neutral op)) (map-append f (passing p n) (n ∷ []))
    ∙ fold_push (combined op) (neutral op) (map f (passing p n)) (f n)

-- where it doesn't, nothing is added
pub gathered-skip : (op : Operation) (f : ℕ → ℕ) (p : ℕ → Bool) (n : ℕ) → p n ≡ false → gathered op f (passing p (suc n)) ≡ gathered op f (passing p n)
gathered-skip op f p n fails =
    ap (gathered op f) (passing-suc p n ∙ ap (λ (b : Bool). passing p n ++ cond b (n ∷ []) []) fails ∙ append-nil (passing p n))

-- one more number of all
gathered-more : (op : Operation) (f : ℕ → ℕ) (n : ℕ) → gathered op f (range_with_len 0 (suc n)) ≡ combined op (gathered op f (range_with_len 0 n)) (f n)
gathered-more op f n =
    ap (gathered op f) (range_to-suc n)
    ∙ ap (fold (combined op) (neutral op)) (map-append f (range_with_len 0 n) (n ∷ []))
    ∙ fold_push (combined op) (neutral op) (map f (range_with_len 0 n)) (f n)

-- values and tests that agree give the same
pub gathered-agree : (op : Operation) (f h : ℕ → ℕ) (p q : ℕ → Bool) (n : ℕ) → ((j : ℕ) → j < n → p j ≡ q j) → ((j : ℕ) → j < n → f j ≡ h j) →
    gathered op f (passing p n) ≡ gathered op h (passing q n)
gathered-agree op f h p q zero tests values = refl
gathered-agree op f h p q (suc n) tests values =
    let rest : gathered op f (passing p n) ≡ gathered op h (passing q n) = gathered-agree op f h p q n (λ j l. tests j (omega arith)) (λ j l. values j (omega arith)) in
    elim (cases_Bool (q n)) [
      | inl passes ↦ gathered-pass op f p n (tests n (omega arith) ∙ passes)
          ∙ combined-both op (gathered op f (passing p n)) (f n) (gathered op h (passing q n)) (h n) rest (values n (omega arith))
          ∙ sym (gathered-pass op h q n passes)
      | inr fails ↦ gathered-skip op f p n (tests n (omega arith) ∙ fails) ∙ rest ∙ sym (gathered-skip op h q n fails)
    ]

-- r passes where exactly one of p and q does
abbrev pub IsSplit : Bool → Bool → Bool → Type 0
IsSplit p q r = ((p ≡ true) × (q ≡ false) × (r ≡ true)) ⊎ (((p ≡ false) × (q ≡ true) × (r ≡ true)) ⊎ ((p ≡ false) × (q ≡ false) × (r ≡ false)))

-- what passes one of two tests is what passes the first and what passes the second, put together
pub gathered-union : (op : Operation) (f : ℕ → ℕ) (p q r : ℕ → Bool) (n : ℕ) → ((j : ℕ) → j < n → IsSplit (p j) (q j) (r j)) →
    gathered op f (passing r n) ≡ combined op (gathered op f (passing p n)) (gathered op f (passing q n))
gathered-union op f p q r zero split = sym (combined-neutral op (neutral op) (neutral-fits op))
gathered-union op f p q r (suc n) split =
    let a = gathered op f (passing p n) in
    let b = gathered op f (passing q n) in
    let rest : gathered op f (passing r n) ≡ combined op a b = gathered-union op f p q r n (λ j l. split j (omega arith)) in
    elim (split n (omega arith)) [
      | inl first ↦ gathered-pass op f r n first.2
          ∙ ap (λ (x : ℕ). combined op x (f n)) rest
          ∙ combined-swap op a b (f n)
          ∙ sym (combined-both op _ _ (combined op a (f n)) b (gathered-pass op f p n first.0) (gathered-skip op f q n first.1))
      | inr other ↦ elim other [
        | inl second ↦ gathered-pass op f r n second.2
            ∙ ap (λ (x : ℕ). combined op x (f n)) rest
            ∙ combined-assoc op a b (f n)
            ∙ sym (combined-both op _ _ a (combined op b (f n)) (gathered-skip op f p n second.0) (gathered-pass op f q n second.1))
        | inr neither ↦ gathered-skip op f r n neither.2
            ∙ rest
            ∙ sym (combined-both op _ _ a b (gathered-skip op f p n neither.0) (gathered-skip op f q n neither.1))
      ]
    ]

-- where nothing passes, nothing is put together
gathered-none : (op : Operation) (f : ℕ → ℕ) (p : ℕ → Bool) (n : ℕ) → ((j : ℕ) → j < n → p j ≡ false) → gathered op f (passing p n) ≡ neutral op
gathered-none op f p zero fails = refl
gathered-none op f p (suc n) fails = gathered-skip op f p n (fails n (omega arith)) ∙ gathered-none op f p n (λ j l. fails j (omega arith))

-- where one number passes, its value stays alone
pub gathered-one : (op : Operation) (f : ℕ → ℕ) (p : ℕ → Bool) (k n : ℕ) → ((j : ℕ) → p j ≡ true → j ≡ k) → p k ≡ true → k < n → f k < 2 ^ 64 → gathered op f (passing p n) ≡ f k
gathered-one op f p k zero only passes h fits = absurd (omega arith)
gathered-one op f p k (suc n) only passes h fits =
    elim (cases_eq k n) [
      | inl level ↦ gathered-pass op f p n (subst (λ (j : ℕ). p j ≡ true) level passes)
          ∙ ap (λ (x : ℕ). combined op x (f n)) (gathered-none op f p n (λ j l. false_from_ne_true (p j) (λ t. let same : j ≡ k = only j t in omega arith)))
          ∙ combined-neutral op (f n) (subst (λ (j : ℕ). f j < 2 ^ 64) level fits)
          ∙ ap f (sym level)
      | inr other ↦ gathered-skip op f p n (false_from_ne_true (p n) (λ t. other (sym (only n t))))
          ∙ gathered-one op f p k n only passes (grind (arith, h, other)) fits
    ]

-- values that change nothing may follow
pub gathered-longer : (op : Operation) (f : ℕ → ℕ) (p : ℕ → Bool) (n k : ℕ) → ((j : ℕ) → n ≤ j → j < n + k → f j ≡ neutral op) → gathered op f (passing p n) < 2 ^ 64 →
    gathered op f (passing p (n + k)) ≡ gathered op f (passing p n)
gathered-longer op f p n zero flat fits = let e : n + 0 ≡ n = omega arith in ap (λ (m : ℕ). gathered op f (passing p m)) e
gathered-longer op f p n (suc k) flat fits =
    let e : n + suc k ≡ suc (n + k) = omega arith in
    let rest : gathered op f (passing p (n + k)) ≡ gathered op f (passing p n) = gathered-longer op f p n k (λ j low high. flat j low (omega arith)) fits in
    ap (λ (m : ℕ). gathered op f (passing p m)) e
    ∙ elim (cases_Bool (p (n + k))) [
      | inl passes ↦ gathered-pass op f p (n + k) passes
          ∙ combined-both op (gathered op f (passing p (n + k))) (f (n + k)) (gathered op f (passing p n)) (neutral op) rest (flat (n + k) (omega arith) (omega arith))
          ∙ combined-comm op (gathered op f (passing p n)) (neutral op)
          ∙ combined-neutral op (gathered op f (passing p n)) fits
      | inr fails ↦ gathered-skip op f p (n + k) fails ∙ rest
    ]

-- a least value is no greater than the first
pub least-low : (a : ℕ) (ks : List ℕ) → fold min a ks ≤ a
least-low a [] = omega arith
least-low a (k ∷ ks) = let rest : fold min (min a k) ks ≤ min a k = least-low (min a k) ks in omega arith

-- what passes has no greater sum than all
pub sum-part : (f : ℕ → ℕ) (p : ℕ → Bool) (n : ℕ) → gathered operations.Sum f (passing p n) ≤ gathered operations.Sum f (range_with_len 0 n)
sum-part f p zero = omega arith
sum-part f p (suc n) =
    let rest : gathered operations.Sum f (passing p n) ≤ gathered operations.Sum f (range_with_len 0 n) = sum-part f p n in
    let all : gathered operations.Sum f (range_with_len 0 (suc n)) ≡ gathered operations.Sum f (range_with_len 0 n) + f n = gathered-more operations.Sum f n in
    elim (cases_Bool (p n)) [
      | inl passes ↦ let one : gathered operations.Sum f (passing p (suc n)) ≡ gathered operations.Sum f (passing p n) + f n = gathered-pass operations.Sum f p n passes in omega arith
      | inr fails ↦ let same : gathered operations.Sum f (passing p (suc n)) ≡ gathered operations.Sum f (passing p n) = gathered-skip operations.Sum f p n fails in omega arith
    ]

-- where all values put together fit 64 bits, so do those that pass
pub gathered-fits : (op : Operation) (f : ℕ → ℕ) (p : ℕ → Bool) (n : ℕ) → gathered op f (range_with_len 0 n) < 2 ^ 64 → gathered op f (passing p n) < 2 ^ 64
gathered-fits operations.Sum f p n h = let part = sum-part f p n in omega (arith, part, h)
gathered-fits operations.Least f p n h = let low = least-low (neutral operations.Least) (map f (passing p n)) in omega (arith, low)

-- all numbers pass the test that refuses none
pub all-pass : (n : ℕ) → passing (λ _. true) n ≡ range_with_len 0 n
all-pass zero = refl
all-pass (suc n) = passing-suc (λ _. true) n ∙ ap (λ (xs : List ℕ). xs ++ n ∷ []) (all-pass n) ∙ sym (range_to-suc n)
