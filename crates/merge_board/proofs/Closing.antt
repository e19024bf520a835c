-- The board at the start, and at the end: where one seat stands for all workers and has missed, the root is at home.
use Rattle.std.proofs.Common.{◌≡◌, ◌≢◌, ℕ, zero, suc, ◌<◌, ◌≤◌, ◌⊎◌, inl, inr, sym, ◌∙◌, subst, ap, arith, true}
use Rattle.std.proofs.lemmas.Bool.{cases_eq, cases_lt}
use Rattle.std.specs.Prelude.{Option, Some, slice_index}
use lib.ListN.{get_elem?}
use Rattle.atomic_table.specs.Table.{State}
use Rattle.tile_plan.specs.Plan.{TilePlan, tile_count, part_count, root, left, right}
use Rattle.tile_plan.specs.Laws.{HasHalves}
use Rattle.tile_plan.proofs.Parents.{has_halves}
use Rattle.border_climb.specs.Stands.{PartState}
use Rattle.merge_board.specs.Fits.{Fits}
use Rattle.merge_board.specs.Board.{IsPart, IsFormed, IsAtHome, HasArrived, IsBoard, Shows, Keeps, word_of, door, toll_of, toll}
use Rattle.merge_board.specs.declared.view.View.{View}
use Rattle.merge_board.proofs.Changes.{one_view, no_hand}
use Rattle.merge_board.proofs.Doors.{some_plan}
use Rattle.merge_board.proofs.Sums.{total_two}

module _ (p : TilePlan) (workers : ℕ) (s : State (Option PartState) View) (board : IsBoard p workers s) (id : ℕ) (v : View) (shows : Shows (get_elem? s.views) id v) (all : v.share ≡ workers) (missed : v.missed ≡ true) where
  -- no seat has a part
  none_held : (k i : ℕ) (u : View) → Shows (get_elem? s.views) k u → u.hand ≡ Some i → ⊥
  none_held k i u h e = elim (cases_eq k id) [
    | inl same ↦ no_hand u i (ap (λ (x : View). x.hand) (one_view (get_elem? s.views) id u v (subst (λ (a : ℕ). Shows (get_elem? s.views) a u) same h) shows) ∙ (board.order.missed id v shows missed).0) e
    | inr ne ↦ no_hand u i (board.order.left_over k u h (let t = total_two (λ x. x.share) s.views k id u v ne h shows in let q = board.shares in omega arith)).0 e
  ]

  -- so each part that is formed has arrived
  arrived : (i : ℕ) → IsPart p i → IsFormed p (slice_index s.words) i → (HasArrived p (slice_index s.words) i → ⊥) → ⊥
  arrived i h f away = let held = board.order.held i h (f, away) in none_held held.0 i held.1.0 held.1.1.0 held.1.1.1

  all_drawn : tile_count p ≤ slice_index s.words 0
  all_drawn = (board.order.missed id v shows missed).1

  is_away : (i : ℕ) → (HasArrived p (slice_index s.words) i) ⊎ (HasArrived p (slice_index s.words) i → ⊥)
  is_away i = elim (cases_eq (slice_index s.words (door p i)) (toll p i)) [
    | inl home ↦ inl (inl home)
    | inr ne ↦ elim (cases_eq (slice_index s.words (door p i)) 3) [
      | inl spent ↦ inl (inr spent)
      | inr ne' ↦ inr (neither ne ne')
    ]
  ]
    where
      neither : slice_index s.words (door p i) ≢ toll p i → slice_index s.words (door p i) ≢ 3 → HasArrived p (slice_index s.words) i → ⊥
      neither a b (inl home) = a home
      neither a b (inr spent) = b spent

  of_formed : (i : ℕ) → IsPart p i → IsFormed p (slice_index s.words) i → HasArrived p (slice_index s.words) i
  of_formed i h f = elim (is_away i) [
    | inl holds ↦ holds
    | inr fails ↦ absurd (arrived i h f fails)
  ]

  -- both halves arrived
  both : (m : ℕ) → tile_count p ≤ m → IsPart p m → HasArrived p (slice_index s.words) (left p m) → HasArrived p (slice_index s.words) (right p m) → slice_index s.words (word_of p m) ≡ 3
  both m low h a b = by a b
    where
      halves : HasHalves p m
      halves = has_halves p m board.plan low h

      at_left : slice_index s.words (door p (left p m)) ≡ slice_index s.words (word_of p m)
      at_left = ap (λ (x : ℕ). slice_index s.words (word_of p x)) halves.left_half.parent_is

      at_right : slice_index s.words (door p (right p m)) ≡ slice_index s.words (word_of p m)
      at_right = ap (λ (x : ℕ). slice_index s.words (word_of p x)) halves.right_half.parent_is

      by : HasArrived p (slice_index s.words) (left p m) → HasArrived p (slice_index s.words) (right p m) → slice_index s.words (word_of p m) ≡ 3
      by (inr spent) z = sym at_left ∙ spent
      by (inl home) (inr spent) = sym at_right ∙ spent
      by (inl home) (inl home') = absurd (let x : slice_index s.words (word_of p m) ≡ 1 = sym at_left ∙ home ∙ ap toll_of halves.left_half.side_is in let y : slice_index s.words (word_of p m) ≡ 2 = sym at_right ∙ home' ∙ ap toll_of halves.right_half.side_is in omega arith)

  -- each part has arrived, by the parts below it
  up_to : (n i : ℕ) → i < n → IsPart p i → HasArrived p (slice_index s.words) i
  up_to zero i lt h = absurd (omega arith)
  up_to (suc n) i lt h = elim (cases_lt i (tile_count p)) [
    | inl tile ↦ of_formed i h (inl (tile, (let d = all_drawn in omega arith)))
    | inr merge ↦ of_formed i h (inr (merge, both i merge h (up_to n (left p i) (low_left merge) (part_left merge)) (up_to n (right p i) (low_right merge) (part_right merge))))
  ]
    where
      halves : tile_count p ≤ i → HasHalves p i
      halves merge = has_halves p i board.plan merge h

      low_left : tile_count p ≤ i → left p i < n
      low_left merge = let a = (halves merge).left_half.below in omega arith

      low_right : tile_count p ≤ i → right p i < n
      low_right merge = let a = (halves merge).right_half.below in omega arith

      part_left : tile_count p ≤ i → IsPart p (left p i)
      part_left merge = let a = (halves merge).left_half.below in omega arith

      part_right : tile_count p ≤ i → IsPart p (right p i)
      part_right merge = let a = (halves merge).right_half.below in omega arith

  root_part : IsPart p (root p)
  root_part = let t = some_plan p board.plan in omega arith

  pub root_home : (part : PartState) × (Keeps (get_elem? s.homes) (root p) part × Fits p (root p) part)
  root_home = board.order.homes (root p) root_part (by (up_to (part_count p) (root p) root_part root_part))
    where
      by : HasArrived p (slice_index s.words) (root p) → IsAtHome p (slice_index s.words) (root p)
      by (inl home) = home
      by (inr spent) = absurd (let a : slice_index s.words (door p (root p)) ≡ 3 = spent in let b = board.order.root_range in omega arith)
