-- A list whose last was taken off.
use Rattle.std.proofs.Common.{◌≡◌, ℕ, ◌+◌, ◌∙◌, subst, ap, List, [], ◌∷◌, ◌++◌, length}
use Rattle.std.proofs.lemmas.List.{length-append}
use Rattle.std.proofs.lemmas.List.Elements.{All-nil, All-cons, All-head, All-tail}
use Rattle.std.specs.Prelude.{All}

module _ {X : Type 0} where
  -- what holds of all of a list holds of its front and of its last
  front_all : (P : X → Type 0) (xs : List X) (x : X) → All P (xs ++ x ∷ []) → All P xs
  front_all P [] x a = All-nil P
  front_all P (y ∷ ys) x a = All-cons P y ys (All-head P y (ys ++ x ∷ []) a) (front_all P ys x (All-tail P y (ys ++ x ∷ []) a))

  last_all : (P : X → Type 0) (xs : List X) (x : X) → All P (xs ++ x ∷ []) → P x
  last_all P [] x a = All-head P x [] a
  last_all P (y ∷ ys) x a = last_all P ys x (All-tail P y (ys ++ x ∷ []) a)

  pub popped_front : (P : X → Type 0) (all left : List X) (last : X) → all ≡ left ++ last ∷ [] → All P all → All P left
  popped_front P all left last e a = front_all P left last (subst (λ (l : List X). All P l) e a)

  pub popped_last : (P : X → Type 0) (all left : List X) (last : X) → all ≡ left ++ last ∷ [] → All P all → P last
  popped_last P all left last e a = last_all P left last (subst (λ (l : List X). All P l) e a)

  pub popped_length : (all left : List X) (last : X) → all ≡ left ++ last ∷ [] → length all ≡ length left + 1
  popped_length all left last e = ap (λ (l : List X). length l) e ∙ length-append left (last ∷ [])
