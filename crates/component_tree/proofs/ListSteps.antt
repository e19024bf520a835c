-- One more value behind others, and one more element.
use Rattle.std.proofs.Common.{◌≡◌, ℕ, zero, suc, ◌+◌, ◌-◌, ◌≤◌, Bool, true, false, cond, refl, sym, ◌∙◌, ap, arith, List, [], ◌∷◌, ◌++◌, map, take, append_assoc, append-nil}
use Rattle.std.specs.Prelude.{Some, slice_get, nat_lt, if◌then◌else◌}
use Rattle.std.specs.List.{range_with_len}
use Rattle.std.proofs.lemmas.Bool.{lt-ltb, le-ltb}
use Rattle.std.proofs.lemmas.List.{map-append}
use Rattle.std.proofs.lemmas.List.FromFn.{map-range_with_len_more}
use Rattle.hg_base.proofs.Leasts.{map-agree}
use Rattle.component_tree.proofs.Unique.{range-parts}

-- the value of the next number is there, behind other values
pub values_behind : (f : ℕ → ℕ) (a i v : ℕ) (first items new : List ℕ) → a ≤ i → items ≡ first ++ map f (range_with_len a (i - a)) → v ≡ f i → new ≡ items ++ v ∷ [] → new ≡ first ++ map f (range_with_len a (i + 1 - a))
values_behind f a i v first items new low so_far value pushed =
    let e : (i - a) + 1 ≡ i + 1 - a = omega arith in
    pushed
    ∙ ap (λ (xs : List ℕ). xs ++ v ∷ []) so_far
    ∙ append_assoc first (map f (range_with_len a (i - a))) (v ∷ [])
    ∙ ap (λ (l : List ℕ). first ++ l) (ap (λ (x : ℕ). map f (range_with_len a (i - a)) ++ x ∷ []) value ∙ sym (map-range_with_len_more f a (i - a) i (omega arith)) ∙ ap (λ (k : ℕ). map f (range_with_len a k)) e)

-- the values of two functions, one after the other, are those of one
pub split-values : (f g : ℕ → ℕ) (n m : ℕ) (first items : List ℕ) → n ≤ m → first ≡ map f (range_with_len 0 n) → items ≡ first ++ map g (range_with_len n (m - n)) →
    items ≡ map (λ i. if nat_lt i n then f i else g i) (range_with_len 0 m)
split-values f g n m first items low front whole =
    let e : n + (m - n) ≡ m = omega arith in
    let z : 0 + n ≡ n = omega arith in
    whole
    ∙ ap (λ (l : List ℕ). l ++ map g (range_with_len n (m - n))) (front ∙ map-agree f h 0 n (λ i l u. sym (rw (lt-ltb i n (omega arith)) refl)))
    ∙ ap (λ (l : List ℕ). map h (range_with_len 0 n) ++ l) (map-agree g h n (m - n) (λ i l u. sym (rw (le-ltb i n l) refl)))
    ∙ sym (map-append h (range_with_len 0 n) (range_with_len n (m - n)))
    ∙ ap (λ (k : ℕ). map h (range_with_len 0 n ++ range_with_len k (m - n))) (sym z)
    ∙ ap (map h) (sym (range-parts 0 n (m - n)))
    ∙ ap (λ (k : ℕ). map h (range_with_len 0 k)) e
  where
    h : ℕ → ℕ
    h i = if nat_lt i n then f i else g i

-- one more of a list
take-next : {X : Type 0} (xs : List X) (k : ℕ) (x : X) → slice_get xs k ≡ Some x → take (suc k) xs ≡ take k xs ++ x ∷ []
take-next [] k x e = absurd (cc)
take-next (y ∷ xs) zero x e = let same : y ≡ x = cc in ap (λ z. z ∷ []) same
take-next {X} (y ∷ xs) (suc k) x e = ap (λ (l : List X). y ∷ l) (take-next xs k x e)

pub mapped_next : {X Y : Type 0} (h : X → Y) (xs : List X) (k : ℕ) (x : X) (v : Y) (items new : List Y) → items ≡ map h (take k xs) → slice_get xs k ≡ Some x → v ≡ h x → new ≡ items ++ v ∷ [] → new ≡ map h (take (k + 1) xs)
mapped_next {X} {Y} h xs k x v items new so_far there value pushed =
    let e : k + 1 ≡ suc k = omega arith in
    pushed
    ∙ ap (λ (l : List Y). l ++ v ∷ []) so_far
    ∙ ap (λ (y : Y). map h (take k xs) ++ y ∷ []) value
    ∙ sym (map-append h (take k xs) (x ∷ []))
    ∙ ap (map h) (sym (take-next xs k x there))
    ∙ ap (λ (n : ℕ). map h (take n xs)) (sym e)

pub element_next : {X : Type 0} (xs : List X) (k : ℕ) (x : X) (items new : List X) → items ≡ take k xs → slice_get xs k ≡ Some x → new ≡ items ++ x ∷ [] → new ≡ take (k + 1) xs
element_next {X} xs k x items new so_far there pushed =
    let e : k + 1 ≡ suc k = omega arith in
    pushed ∙ ap (λ (l : List X). l ++ x ∷ []) so_far ∙ sym (take-next xs k x there) ∙ ap (λ (n : ℕ). take n xs) (sym e)
