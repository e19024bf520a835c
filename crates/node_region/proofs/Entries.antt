-- What a list has for a number of a range, before and after a write.
use Rattle.std.proofs.Common.{◌≡◌, ◌≢◌, ℕ, ◌+◌, ◌-◌, ◌<◌, ◌≤◌, zero, suc, inl, inr, List, [], ◌∷◌, ◌++◌, length, get_or, set, map, Option, Some, None, IsSome, subst, refl, sym, ap, ◌∙◌, arith}
use Rattle.std.proofs.lemmas.List.{get_or-set_same, get_or-set_other, get_or-map, get_or_append_left, get_or-append_right}
use Rattle.std.proofs.lemmas.Bool.{cases_lt}
use Rattle.node_region.specs.Pool.{entry}
use Rattle.node_region.specs.Tables.{next_of}

-- the test of the range is passed
pub entry-is : {X : Type 0} (first : ℕ) (xs : List (Option X)) (id : ℕ) → first ≤ id → entry first xs id ≡ get_or xs (id - first) None
entry-is first xs id low = grind arith

entry-below : {X : Type 0} (first : ℕ) (xs : List (Option X)) (id : ℕ) → id < first → entry first xs id ≡ None
entry-below first xs id low = grind arith

pub entry-set_same : {X : Type 0} (first : ℕ) (xs : List (Option X)) (id : ℕ) (y : Option X) → first ≤ id → id < first + length xs → entry first (set xs (id - first) y) id ≡ y
entry-set_same first xs id y low high = entry-is first (set xs (id - first) y) id low ∙ get_or-set_same xs (id - first) y None (omega arith)

pub entry-set_other : {X : Type 0} (first : ℕ) (xs : List (Option X)) (id i : ℕ) (y : Option X) → first ≤ id → first ≤ i → i ≢ id → entry first (set xs (id - first) y) i ≡ entry first xs i
entry-set_other first xs id i y low here other =
    entry-is first (set xs (id - first) y) i here ∙ get_or-set_other xs (id - first) (i - first) y None (λ same. other (omega arith)) ∙ sym (entry-is first xs i here)

pub nothing-is_not : {X : Type 0} (o : Option X) → o ≡ None → IsSome o → ⊥
nothing-is_not None none some = cc
nothing-is_not (Some x) none some = cc

-- there is something only within a list
some-within : {X : Type 0} (xs : List (Option X)) (k : ℕ) → IsSome (get_or xs k None) → k < length xs
some-within [] k some = cc
some-within (x ∷ xs) zero some = omega arith
some-within (x ∷ xs) (suc k) some = omega (arith, some-within xs k some)

-- a number that has an entry is one of the range
pub entry-covered : {X : Type 0} (first : ℕ) (xs : List (Option X)) (id : ℕ) → IsSome (entry first xs id) → (first ≤ id) × (id < first + length xs)
entry-covered first xs id some = elim (cases_lt id first) [
  | inl low ↦ absurd (nothing-is_not (entry first xs id) (entry-below first xs id low) some)
  | inr low ↦
      let within = some-within xs (id - first) (subst (λ o. IsSome o) (entry-is first xs id low) some) in
      (low, omega (arith, within))
]

pub next-set_same : (first : ℕ) (l : List ℕ) (id v : ℕ) → first ≤ id → id < first + length l → next_of first (set l (id - first) v) id ≡ v
next-set_same first l id v low high = get_or-set_same l (id - first) v 0 (omega arith)

pub next-set_other : (first : ℕ) (l : List ℕ) (id i v : ℕ) → first ≤ id → first ≤ i → i ≢ id → next_of first (set l (id - first) v) i ≡ next_of first l i
next-set_other first l id i v low here other = get_or-set_other l (id - first) (i - first) v 0 (λ same. other (omega arith))

-- what is read at a number, where the list is made of other entries
pub entry-read : {A X : Type 0} (f : A → Option X) (first : ℕ) (xs : List A) (n id : ℕ) (a : A) → first + n ≡ id → n < length xs → a ≡ get_or xs n a → entry first (map f xs) id ≡ f a
entry-read f first xs n id a at within read =
    let place : id - first ≡ n = omega arith in
    entry-is first (map f xs) id (omega arith) ∙ rw place (get_or-map f xs n a None within ∙ ap f (sym read))

-- what two lists have, one behind the other
pub entry-append_left : {X : Type 0} (first : ℕ) (xs ys : List (Option X)) (id : ℕ) → first ≤ id → id < first + length xs → entry first (xs ++ ys) id ≡ entry first xs id
entry-append_left first xs ys id low high =
    entry-is first (xs ++ ys) id low ∙ get_or_append_left xs ys None (id - first) (omega arith) ∙ sym (entry-is first xs id low)

pub entry-append_right : {X : Type 0} (first : ℕ) (xs ys : List (Option X)) (id next : ℕ) → next ≡ first + length xs → next ≤ id → entry first (xs ++ ys) id ≡ entry next ys id
entry-append_right first xs ys id next behind low =
    let place : id - first - length xs ≡ id - next = omega arith in
    entry-is first (xs ++ ys) id (omega arith) ∙ get_or-append_right xs ys (length xs) (id - first) None refl (omega arith)
    ∙ ap (λ k. get_or ys k None) place ∙ sym (entry-is next ys id low)

-- nothing is there for a number outside the range
pub entry-outside : {X : Type 0} (first : ℕ) (xs : List (Option X)) (id : ℕ) → (first ≤ id → id < first + length xs → ⊥) → entry first xs id ≡ None
entry-outside first xs id out = nothing-there (entry first xs id) (λ some. let at = entry-covered first xs id some in out at.0 at.1)
  where
    nothing-there : {X : Type 0} (o : Option X) → (IsSome o → ⊥) → o ≡ None
    nothing-there None none = refl
    nothing-there (Some x) none = absurd (none refl)
