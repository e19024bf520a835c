-- Lists that are filled in place.
use Rattle.std.proofs.Common.{◌≡◌, ℕ, suc, ◌+◌, ◌<◌, inl, inr, refl, sym, ◌∙◌, ap, subst, arith, List, [], ◌∷◌, ◌++◌, length, map, get_or, set, take, get_or-set_same, get_or-set_other}
use Rattle.std.proofs.Math.Seq.{take-append_seam}
use Rattle.std.proofs.lemmas.Bool.{cases_eq}

-- one more element is filled
pub filled_more : {X : Type 0} (P : ℕ → X → Type 0) (xs : List X) (k : ℕ) (y : X) → ((i : ℕ) (d : X) → i < k → P i (get_or xs i d)) → P k y → k < length xs
    → (i : ℕ) (d : X) → i < k + 1 → P i (get_or (set xs k y) i d)
filled_more P xs k y before now within i d l =
    elim (cases_eq i k) [
      | inl e ↦ rw e (subst (P k) (sym (get_or-set_same xs k y d within)) now)
      | inr off ↦ (let low : i < k = omega arith in subst (P i) (sym (get_or-set_other xs k i y d off)) (before i d low))
    ]

-- a list whose elements are f of those of another
pub map_by_each : {X Y : Type 0} (f : X → Y) (xs : List X) (ys : List Y) → length ys ≡ length xs → ((k : ℕ) (d : X) (e : Y) → k < length xs → get_or ys k e ≡ f (get_or xs k d)) → ys ≡ map f xs
map_by_each f [] [] long at = refl
map_by_each f [] (y ∷ ys) long at = absurd (omega arith)
map_by_each f (x ∷ xs) [] long at = absurd (omega arith)
map_by_each {X} {Y} f (x ∷ xs) (y ∷ ys) long at =
    let head : y ≡ f x = at 0 x y (omega arith) in
    let rest = map_by_each f xs ys (omega arith) (λ k d e l. at (suc k) d e (omega arith)) in
    ap (λ (z : Y). z ∷ ys) head ∙ ap (λ (zs : List Y). f x ∷ zs) rest

-- what a list holds once its places are filled
pub filled_whole : {X : Type 0} (len : ℕ) (ys rest : List X) → len ≡ length ys → take len (ys ++ rest) ≡ ys
filled_whole {X} len ys rest long = ap (λ (n : ℕ). take n (ys ++ rest)) long ∙ take-append_seam ys rest
