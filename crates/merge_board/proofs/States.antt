-- Each part is in exactly one of its states.
use Rattle.std.proofs.Common.{◌≡◌, ◌≢◌, ℕ, ◌<◌, ◌≤◌, ◌⊎◌, inl, inr, arith}
use Rattle.std.proofs.lemmas.Bool.{cases_eq, cases_lt}
use Rattle.std.specs.Prelude.{Option, Some, slice_index}
use lib.ListN.{get_elem?}
use mathlib.Core.Option.{some}
use Rattle.atomic_table.specs.Table.{State}
use Rattle.tile_plan.specs.Plan.{TilePlan, tile_count}
use Rattle.border_climb.specs.Stands.{PartState}
use Rattle.merge_board.specs.Board.{IsBoard, IsPart, IsFormed, IsUnborn, IsInHand, HasArrived, IsStatus, HasOneState, Unborn, InHand, AtHome, Spent, door, word_of, toll}
use Rattle.merge_board.specs.declared.view.View.{View}
use Rattle.merge_board.proofs.Calm.{spent_away}

pub part_status : (p : TilePlan) (workers i : ℕ) (s : State (Option PartState) View) → IsBoard p workers s → IsPart p i → IsStatus p s i
part_status p workers i s b h = elim (cases_eq (slice_index s.words (door p i)) (toll p i)) [
  | inl home ↦ (let was = b.order.homes i h home in AtHome home was.0 was.1.0 was.1.1)
  | inr not_home ↦ elim (cases_eq (slice_index s.words (door p i)) 3) [
    | inl spent ↦ Spent spent
    | inr not_spent ↦ by_formed is_formed (away not_home not_spent)
  ]
]
  where
    away : slice_index s.words (door p i) ≢ toll p i → slice_index s.words (door p i) ≢ 3 → HasArrived p (slice_index s.words) i → ⊥
    away a c (inl home) = a home
    away a c (inr spent) = c spent

    neither : (i < tile_count p) ⊎ (tile_count p ≤ i) → (slice_index s.words 0 ≤ i) → (slice_index s.words (word_of p i) ≢ 3) → IsFormed p (slice_index s.words) i → ⊥
    neither t low ne (inl f) = let a = f.1 in omega arith
    neither t low ne (inr f) = ne f.1

    tile_only : i < tile_count p → slice_index s.words 0 ≤ i → IsFormed p (slice_index s.words) i → ⊥
    tile_only t low (inl f) = let a = f.1 in omega arith
    tile_only t low (inr f) = let a = f.0 in omega arith

    merge_only : tile_count p ≤ i → slice_index s.words (word_of p i) ≢ 3 → IsFormed p (slice_index s.words) i → ⊥
    merge_only m ne (inl f) = let a = f.0 in omega arith
    merge_only m ne (inr f) = ne f.1

    is_formed : IsFormed p (slice_index s.words) i ⊎ (IsFormed p (slice_index s.words) i → ⊥)
    is_formed = elim (cases_lt i (tile_count p)) [
      | inl tile ↦ elim (cases_lt i (slice_index s.words 0)) [
        | inl drawn ↦ inl (inl (tile, drawn))
        | inr not_drawn ↦ inr (tile_only tile not_drawn)
      ]
      | inr merge ↦ elim (cases_eq (slice_index s.words (word_of p i)) 3) [
        | inl three ↦ inl (inr (merge, three))
        | inr ne ↦ inr (merge_only merge ne)
      ]
    ]

    by_formed : IsFormed p (slice_index s.words) i ⊎ (IsFormed p (slice_index s.words) i → ⊥) → (HasArrived p (slice_index s.words) i → ⊥) → IsStatus p s i
    by_formed (inr un) far = Unborn un far
    by_formed (inl f) far = InHand (f, far) (record { seat = held.0; view = held.1.0; shows = held.1.1.0; hand = held.1.1.1; alone = λ k v s h. b.order.once k held.0 i v held.1.0 s held.1.1.0 h held.1.1.1 })
      where
        held : (k : ℕ) × ((v : View) × ((get_elem? s.views k ≡ some v) × (v.hand ≡ Some i)))
        held = b.order.held i h (f, far)

-- no two of the states hold of a part
pub one_state : (p : TilePlan) (workers i : ℕ) (s : State (Option PartState) View) → IsBoard p workers s → IsPart p i → HasOneState p (slice_index s.words) i
one_state p workers i s b h = record { unborn = other; in_hand = λ a f. a.1 f; at_home = λ home spent. spent_away p (slice_index s.words) i b.plan h spent home }
  where
    other : IsUnborn p (slice_index s.words) i → IsInHand p (slice_index s.words) i ⊎ HasArrived p (slice_index s.words) i → ⊥
    other un (inl a) = un a.0
    other un (inr f) = un (b.order.formed i h f)
