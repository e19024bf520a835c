-- Where no seat has seen or missed a draw, no tile is drawn.
use Rattle.std.proofs.Common.{◌≡◌, ◌≢◌, ℕ, zero, suc, ◌+◌, ◌<◌, ◌≤◌, inl, inr, refl, sym, ◌∙◌, subst, ap, arith, List, ◌∷◌}
use Rattle.std.proofs.lemmas.Bool.{cases_eq, cases_lt}
use Rattle.std.proofs.lemmas.List.Elements.{All-head, All-same, All-rest}
use Rattle.std.specs.Prelude.{Option, All, slice_set, slice_index}
use mathlib.Core.Option.{some, some-injective}
use lib.ListN.{get_elem?}
use Rattle.atomic_table.specs.Table.{State}
use Rattle.atomic_table.proofs.Lists.{set_else}
use Rattle.border_climb.specs.Stands.{PartState}
use Rattle.merge_board.specs.Board.{Shows, missed_share, total}
use Rattle.merge_board.specs.RuleOfKey.{rule_of}
use Rattle.merge_board.specs.Opening.{KnowsNoDraw, IsUndrawn}
use Rattle.merge_board.specs.Seats.{SeatState, BoardState, fresh_seat, fresh_seats, left_over}
use Rattle.merge_board.specs.declared.view.View.{View}
use Rattle.merge_board.specs.declared.view.Key.{Key}
use Rattle.merge_board.proofs.Setting.{seats_down, seats_more}
use Rattle.merge_board.proofs.Seen.{most_seen_within}
use Rattle.merge_board.proofs.Sums.{total_has, total_none, total_set, missed_none, missed_within}

-- no draw was made where each view that stands for a worker is fresh
pub none_drawn : (key : Key) (s : State (Option PartState) View) → rule_of key s → ((k : ℕ) (v : View) → Shows (get_elem? s.views) k v → 1 ≤ v.share → KnowsNoDraw v) → slice_index s.words 0 ≡ 0
none_drawn key s b fresh = let a = most_seen_within s.views 0 unseen in let c = total_none missed_share s.views none_missed in let d = b.draws in omega arith
  where
    unseen : (k : ℕ) (v : View) → Shows (get_elem? s.views) k v → v.seen ≤ 0
    unseen k v h = elim (cases_lt 0 v.share) [
      | inl some_share ↦ (let f = (fresh k v h some_share).0 in omega arith)
      | inr no_share ↦ (let f = (b.order.left_over k v h (omega arith)).1 in omega arith)
    ]

    none_missed : (k : ℕ) (v : View) → Shows (get_elem? s.views) k v → missed_share v ≡ 0
    none_missed k v h = elim (cases_lt 0 v.share) [
      | inl some_share ↦ missed_none v (fresh k v h some_share).1
      | inr no_share ↦ (let m = missed_within v in omega arith)
    ]

-- what holds of the seats of the first numbers holds of each
each_down : (P : SeatState → Type 0) (b : BoardState) (n : ℕ) → All P (seats_down b n) → (m : ℕ) → m < n → P (fresh_seat b m)
each_down P b zero all m h = absurd (omega arith)
each_down P b (suc n) all m h = elim (cases_eq m n) [
  | inl same ↦ subst (λ (k : ℕ). P (fresh_seat b k)) (sym same) (All-head P (fresh_seat b n) (seats_down b n) (All-same P (fresh_seat b n ∷ seats_down b n) (seats_down b (suc n)) (sym more) all))
  | inr ne ↦ each_down P b n (All-rest P (fresh_seat b n) (seats_down b n) (seats_down b (suc n)) more all) m (omega arith)
]
  where
    again : suc n ≡ n + 1
    again = omega arith

    more : seats_down b (suc n) ≡ fresh_seat b n ∷ seats_down b n
    more = ap (λ (k : ℕ). seats_down b k) again ∙ seats_more b n

-- where the first n seats have all n workers, each view that stands for one is theirs
all_theirs : (P : View → Type 0) (b : BoardState) → ((m : ℕ) → P (fresh_seat b m).view) → (n : ℕ) (vs : List View) → total (λ v. v.share) vs ≡ n
    → ((m : ℕ) → m < n → (k : ℕ) × Shows (get_elem? vs) k (fresh_seat b m).view) → (j : ℕ) (u : View) → Shows (get_elem? vs) j u → 1 ≤ u.share → P u
all_theirs P b each zero vs all shown j u at some_share = absurd (let t = total_has (λ v. v.share) vs j u at in omega arith)
all_theirs P b each (suc n) vs all shown j u at some_share = elim (cases_eq j place) [
  | inl same ↦ subst P (some-injective (fresh_seat b n).view u (sym here ∙ subst (λ (k : ℕ). get_elem? vs k ≡ some u) same at)) (each n)
  | inr ne ↦ all_theirs P b each n (slice_set vs place left_over) fewer others j u (set_else vs place j left_over ne ∙ at) some_share
]
  where
    last : (k : ℕ) × Shows (get_elem? vs) k (fresh_seat b n).view
    last = shown n (omega arith)

    place : ℕ
    place = last.0

    here : Shows (get_elem? vs) place (fresh_seat b n).view
    here = last.1

    fewer : total (λ v. v.share) (slice_set vs place left_over) ≡ n
    fewer = let t = total_set (λ v. v.share) vs place (fresh_seat b n).view left_over here in omega arith

    others : (m : ℕ) → m < n → (k : ℕ) × Shows (get_elem? (slice_set vs place left_over)) k (fresh_seat b m).view
    others m h = (at_m.0, set_else vs place at_m.0 left_over apart ∙ at_m.1)
      where
        at_m : (k : ℕ) × Shows (get_elem? vs) k (fresh_seat b m).view
        at_m = shown m (omega arith)

        apart : at_m.0 ≢ place
        apart e = let same : (fresh_seat b n).view ≡ (fresh_seat b m).view = some-injective (fresh_seat b n).view (fresh_seat b m).view (sym here ∙ subst (λ (k : ℕ). get_elem? vs k ≡ some (fresh_seat b m).view) e at_m.1) in
            let number : n ≡ m = ap (λ (v : View). v.number) same in omega arith

-- no tile is drawn where all seats are fresh
pub fresh_undrawn : (b : BoardState) → IsUndrawn b (fresh_seats b)
fresh_undrawn b key s plan workers rule shown = none_drawn key s rule (λ k v h some_share. all_theirs KnowsNoDraw b (λ m. (refl, refl)) b.workers s.views (rule.shares ∙ workers)
    (each_down (λ (seat : SeatState). (j : ℕ) × Shows (get_elem? s.views) j seat.view) b b.workers shown) k v h some_share)
