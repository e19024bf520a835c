-- One change of words, slots or views, and what it leaves.
use Rattle.std.proofs.Common.{◌≡◌, ◌≢◌, ℕ, ◌⊎◌, inl, inr, sym, ◌∙◌, subst, ap}
use Rattle.std.proofs.lemmas.Bool.{cases_eq}
use Rattle.std.specs.Prelude.{Some, None}
use Rattle.std.proofs.lemmas.Option.{none-some, same_Some}
use mathlib.Core.Option.{some, some-injective}
use Rattle.merge_board.specs.Board.{Views, Shows}
use Rattle.merge_board.specs.declared.view.View.{View}

-- g is f but for a at i
pub record IsChange {A : Type 0} (f g : ℕ → A) (i : ℕ) (a : A) : Type 0 where
  pub here : g i ≡ a
  pub others : (j : ℕ) → j ≢ i → g j ≡ f j

-- another view is as it was, and the changed one is known
pub shown : (views views' : Views) (id k : ℕ) (u v : View) → IsChange views views' id (some u) → Shows views' k v → ((k ≡ id) × (u ≡ v)) ⊎ ((k ≢ id) × Shows views k v)
shown views views' id k u v c h = elim (cases_eq k id) [
  | inl same ↦ inl (same, some-injective u v (sym c.here ∙ subst (λ (n : ℕ). views' n ≡ some v) same h))
  | inr ne ↦ inr (ne, sym (c.others k ne) ∙ h)
]

pub still_shown : (views views' : Views) (id k : ℕ) (u v : View) → IsChange views views' id (some u) → k ≢ id → Shows views k v → Shows views' k v
still_shown views views' id k u v c ne h = c.others k ne ∙ h

pub here_shown : (views views' : Views) (id : ℕ) (u : View) → IsChange views views' id (some u) → Shows views' id u
here_shown views views' id u c = c.here

-- one seat has one view
pub one_view : (views : Views) (k : ℕ) (u v : View) → Shows views k u → Shows views k v → u ≡ v
one_view views k u v a b = some-injective u v (sym a ∙ b)

pub no_hand : (v : View) (i : ℕ) → v.hand ≡ None → v.hand ≡ Some i → ⊥
no_hand v i a b = none-some i (sym a ∙ b)

pub one_hand : (v : View) (i j : ℕ) → v.hand ≡ Some i → v.hand ≡ Some j → i ≡ j
one_hand v i j a b = same_Some i j (sym a ∙ b)

-- a seat with a part isn't one without
pub apart_from : (views : Views) (id k i : ℕ) (u v : View) → Shows views id v → v.hand ≡ None → Shows views k u → u.hand ≡ Some i → k ≢ id
apart_from views id k i u v shows hand h e same = no_hand v i hand (sym (ap (λ (x : View). x.hand) (one_view views id u v (subst (λ (a : ℕ). Shows views a u) same h) shows)) ∙ e)
