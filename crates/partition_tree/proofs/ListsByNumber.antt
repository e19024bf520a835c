-- Lists made number by number: a value for each number, or for each that passes a test.
use Rattle.std.proofs.Common.{◌≡◌, ℕ, zero, suc, ◌+◌, ◌<◌, Bool, true, false, cond, refl, sym, ◌∙◌, ap, arith, List, [], ◌∷◌, ◌++◌, map, append-nil}
use Rattle.std.specs.List.{range_with_len}
use Rattle.std.proofs.lemmas.List.{map-append}
use Rattle.std.proofs.lemmas.List.FromFn.{map-range_with_len_more}
use Rattle.hg_base.proofs.Passing.{passing, passing-suc, range_to-suc}

-- the value of the next number is there
pub values_more : {X : Type 0} (f : ℕ → X) (i : ℕ) (v : X) (items new : List X) → items ≡ map f (range_with_len 0 i) → v ≡ f i → new ≡ items ++ v ∷ [] → new ≡ map f (range_with_len 0 (i + 1))
values_more {X} f i v items new so_far value pushed =
    pushed
    ∙ ap (λ (xs : List X). xs ++ v ∷ []) so_far
    ∙ ap (λ (x : X). map f (range_with_len 0 i) ++ x ∷ []) value
    ∙ sym (map-range_with_len_more f 0 i i (omega arith))

-- the next number passes, and its value is there
pub passing_more : {X : Type 0} (f : ℕ → X) (p : ℕ → Bool) (i : ℕ) (v : X) (items new : List X) → items ≡ map f (passing p i) → p i ≡ true → v ≡ f i → new ≡ items ++ v ∷ [] → new ≡ map f (passing p (i + 1))
passing_more {X} f p i v items new so_far passes value pushed =
    let e : i + 1 ≡ suc i = omega arith in
    let one : passing p (suc i) ≡ passing p i ++ i ∷ [] = passing-suc p i ∙ ap (λ (b : Bool). passing p i ++ cond b (i ∷ []) []) passes in
    pushed
    ∙ ap (λ (xs : List X). xs ++ v ∷ []) so_far
    ∙ ap (λ (x : X). map f (passing p i) ++ x ∷ []) value
    ∙ sym (map-append f (passing p i) (i ∷ []))
    ∙ ap (map f) (sym one)
    ∙ ap (λ (n : ℕ). map f (passing p n)) (sym e)

-- the next number doesn't pass
pub passing_same : {X : Type 0} (f : ℕ → X) (p : ℕ → Bool) (i : ℕ) (items : List X) → items ≡ map f (passing p i) → p i ≡ false → items ≡ map f (passing p (i + 1))
passing_same {X} f p i items so_far fails =
    let e : i + 1 ≡ suc i = omega arith in
    let one : passing p (suc i) ≡ passing p i ++ [] = passing-suc p i ∙ ap (λ (b : Bool). passing p i ++ cond b (i ∷ []) []) fails in
    so_far ∙ ap (map f) (sym (append-nil (passing p i)) ∙ sym one) ∙ ap (λ (n : ℕ). map f (passing p n)) (sym e)

-- functions that agree below n have the same values there
pub values-agree : (f h : ℕ → ℕ) (n : ℕ) → ((i : ℕ) → i < n → f i ≡ h i) → map f (range_with_len 0 n) ≡ map h (range_with_len 0 n)
values-agree f h zero agree = refl
values-agree f h (suc n) agree =
    ap (map f) (range_to-suc n)
    ∙ map-append f (range_with_len 0 n) (n ∷ [])
    ∙ ap (λ (xs : List ℕ). xs ++ f n ∷ []) (values-agree f h n (λ i l. agree i (omega arith)))
    ∙ ap (λ (x : ℕ). map h (range_with_len 0 n) ++ x ∷ []) (agree n (omega arith))
    ∙ sym (map-append h (range_with_len 0 n) (n ∷ []))
    ∙ sym (ap (map h) (range_to-suc n))
