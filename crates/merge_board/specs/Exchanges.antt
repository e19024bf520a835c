-- What an exchange of a slot that is out with a seat changes, and which slots are out.
use Rattle.std.specs.Prelude.{ℕ, ◌⊎◌, List, [], ◌∷◌, All, Option, slice_set}
use mathlib.Core.Option as maybe
use Rattle.atomic_table.specs.Table.{State}
use Rattle.border_climb.specs.Stands.{PartState}
use Rattle.tile_plan.specs.Plan.{TilePlan}
use Rattle.merge_board.specs.Board.{Words, IsPart, IsUnborn, IsInHand, IsAtHome, IsSpent}
use Rattle.merge_board.specs.Steps.{Hold}
use Rattle.merge_board.specs.declared.view.View.{View}

-- the slots that a seat holds, after this is put into the one that was taken last
abbrev pub held_after : Option PartState → List (ℕ × Option PartState) → List (ℕ × Option PartState)
held_after x [] = []
held_after x (slot ∷ slots) = (slot.0, x) ∷ slots

-- the board and the seat after that exchange: words, slots at home and views are as they were
abbrev pub exchanged : State (Option PartState) View → Hold → Option PartState → State (Option PartState) View × Hold
exchanged s me x = (record { words = s.words; homes = s.homes; views = s.views }, (me.0, held_after x me.1))

-- Part i may be out with a seat: it is in hand or spent, and neither unborn nor at home.
pub record IsOut (p : TilePlan) (w : Words) (i : ℕ) : Type 0 where
  pub part : IsPart p i
  pub out : IsInHand p w i ⊎ IsSpent p w i
  pub born : IsUnborn p w i → ⊥
  pub away : IsAtHome p w i → ⊥

-- each slot that a seat holds is of such a part
abbrev pub AreOut : TilePlan → Words → List (ℕ × Option PartState) → Type 0
AreOut p w held = All (λ slot. IsOut p w slot.0) held

-- what a slot has: it is out, or at home with a part or with none
abbrev pub SlotState : Type 0
SlotState = maybe.Option (Option PartState)

-- the board with something else in slot i
abbrev pub with_slot : State (Option PartState) View → ℕ → SlotState → State (Option PartState) View
with_slot s i slot = record { words = s.words; homes = slice_set s.homes i slot; views = s.views }
