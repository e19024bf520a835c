-- How a part is put down, and how the two halves are taken up, over the slots that a seat holds.
use Rattle.std.proofs.Common.{◌≡◌, ◌≢◌, ℕ, ◌+◌, ◌^◌, ◌%◌, ◌<◌, ◌≤◌, refl, sym, ◌∙◌, subst, ap, arith, List, [], ◌∷◌, ◌++◌, inl, inr, true}
use Rattle.std.proofs.lemmas.Bool.{cases_eq}
use Rattle.std.proofs.lemmas.Option.{same_Some}
use Rattle.std.specs.Prelude.{Option, Some, None}
use Rattle.atomic_table.specs.Table.{rest, turned, Allows}
use Rattle.atomic_table.specs.declared.shared.Seat.{Seat}
use Rattle.tile_plan.specs.Plan.{TilePlan, IsPlan, tile_count, part_count, root, parent, sibling, side, left, right}
use Rattle.tile_plan.specs.declared.site.Side.TheVariants as sides
use Rattle.tile_plan.proofs.Parents.{has_parent}
use Rattle.border_climb.specs.Stands.{PartState}
use Rattle.merge_board.specs.Fits.{Fits}
use Rattle.merge_board.specs.Board.{IsBoard, door, toll}
use Rattle.merge_board.specs.Seats.{with_merge}
use Rattle.merge_board.specs.Steps.{Hold, Arrives, ArrivesWith, AreTurns, AreBelow, AreBothHalves}
use Rattle.merge_board.specs.SeatFields.{IsSeat}
use Rattle.merge_board.specs.declared.view.View.{View}
use Rattle.merge_board.specs.declared.seat.Seat.TheInside.{Inside}
use Rattle.merge_board.proofs.Doors.{some_plan, door_inner, door_root, parent_inner, parent_merge, sibling_part, sibling_toll}
use Rattle.merge_board.proofs.Arriving.{may_arrive}
use Rattle.merge_board.proofs.Changes.{no_hand}
use Rattle.merge_board.proofs.HeldSlots.{arrives_alone}
use Rattle.merge_board.proofs.Places.{left_own, right_own, left_sibling, right_sibling}

abbrev Held : Type 0
Held = List (ℕ × Option PartState)

-- after the second slot was emptied and another turn, the third is the first
pub third_slot : (l0 l1 l2 l3 : List (ℕ × Option PartState)) (m s o : ℕ × Option PartState) (k : ℕ) → l0 ≡ m ∷ s ∷ o ∷ [] → l1 ≡ turned l0 → l2 ≡ (k, None) ∷ rest l1 → l3 ≡ turned l2 → l3 ≡ o ∷ m ∷ (k, None) ∷ []
third_slot l0 l1 l2 l3 m s o k e0 e1 e2 e3 = e3 ∙ ap turned (e2 ∙ ap (λ (z : List (ℕ × Option PartState)). (k, None) ∷ rest z) (e1 ∙ ap turned e0))

first_has : List (ℕ × Option PartState) → Option PartState
first_has [] = None
first_has (x ∷ xs) = x.1

-- the first slot has one part
pub same_first : (held a b : List (ℕ × Option PartState)) (k l : ℕ) (x : Option PartState) (y z : PartState) → held ≡ (k, x) ∷ a → held ≡ (l, Some y) ∷ b → x ≡ Some z → z ≡ y
unfolding first_has
same_first held a b k l x y z e f g = same_Some z y (sym g ∙ ap first_has (sym e ∙ f))

-- which half is which
pub halves_left : (p : TilePlan) (i m : ℕ) (own other : PartState) → IsPlan p → i < part_count p → i ≢ root p → side p i ≡ sides.Left → m ≡ parent p i → Fits p i own → Fits p (sibling p i) other
    → (m ≡ parent p i) × (Fits p (left p m) own × Fits p (right p m) other)
halves_left p i m own other h l inner on e a b = (
  e,
  (
    subst (λ (k : ℕ). Fits p k own) (left_own p i h l inner on ∙ ap (λ (k : ℕ). left p k) (sym e)) a,
    subst (λ (k : ℕ). Fits p k other) (sym (left_sibling p i on) ∙ ap (λ (k : ℕ). right p k) (sym e)) b,
  ),
)

pub halves_right : (p : TilePlan) (i m : ℕ) (own other : PartState) → IsPlan p → i < part_count p → i ≢ root p → side p i ≡ sides.Right → m ≡ parent p i → Fits p i own → Fits p (sibling p i) other
    → (m ≡ parent p i) × (Fits p (left p m) other × Fits p (right p m) own)
halves_right p i m own other h l inner on e a b = (
  e,
  (
    subst (λ (k : ℕ). Fits p k other) (sym (right_sibling p i on) ∙ ap (λ (k : ℕ). left p k) (sym e)) b,
    subst (λ (k : ℕ). Fits p k own) (right_own p i h l inner on ∙ ap (λ (k : ℕ). right p k) (sym e)) a,
  ),
)

pub door_within : (p : TilePlan) (i : ℕ) → IsPlan p → i < part_count p → door p i < tile_count p + 1
door_within p i h l = elim (cases_eq i (root p)) [
  | inl same ↦ (let a = door_root p h (some_plan p h) in let b : door p i ≡ tile_count p = subst (λ (x : ℕ). door p x ≡ tile_count p) (sym same) a in omega arith)
  | inr ne ↦ (let a = door_inner p h i l ne in omega arith)
]

-- the slots with the part put in and turned to the end
turned_in : (p : TilePlan) (i : ℕ) (me me' : Hold) (y : Option PartState) (t : AreTurns p (Some i) me.1) → me' ≡ (me.0, turned ((i, y) ∷ rest me.1)) → me' ≡ (me.0, t.1.0 ++ (i, y) ∷ [])
turned_in p i me me' y t e = e ∙ ap (λ (l : List (ℕ × Option PartState)). (me.0, turned ((i, y) ∷ rest l))) t.1.1.0

pub may_put_down : (p : TilePlan) (workers id slots i : ℕ) (me me' : Hold) (word k : ℕ) (y : PartState) → me.0.hand ≡ Some i → me.0.plan ≡ p → Fits p i y → AreTurns p (Some i) me.1
    → me' ≡ (me.0, turned ((i, Some y) ∷ rest me.1)) → word ≡ door p i → k ≡ toll p i → Allows (IsBoard p workers) slots id me' word (λ z. (z + k) % 2 ^ 64) (λ n after. Arrives me' n after)
may_put_down p workers id slots i me me' word k y hand known fits t e at by =
    subst (λ (m : Hold). Allows (IsBoard p workers) slots id m word (λ z. (z + k) % 2 ^ 64) (λ n after. Arrives m n after)) (sym (turned_in p i me me' (Some y) t e))
    (subst (λ (w : ℕ). Allows (IsBoard p workers) slots id (me.0, t.1.0 ++ (i, Some y) ∷ []) w (λ z. (z + k) % 2 ^ 64) (λ n after. Arrives (me.0, t.1.0 ++ (i, Some y) ∷ []) n after)) (sym at)
    (subst (λ (q : ℕ). Allows (IsBoard p workers) slots id (me.0, t.1.0 ++ (i, Some y) ∷ []) (door p i) (λ z. (z + q) % 2 ^ 64) (λ n after. Arrives (me.0, t.1.0 ++ (i, Some y) ∷ []) n after)) (sym by)
    (may_arrive p workers id slots i me.0 y hand known fits t.1.0 t.1.1.1)))

pub told_alone : (p : TilePlan) (i n : ℕ) (me me' after : Hold) (y : PartState) → me.0.hand ≡ Some i → me.0.plan ≡ p → AreTurns p (Some i) me.1 → me' ≡ (me.0, turned ((i, Some y) ∷ rest me.1)) → Arrives me' n after
    → ArrivesWith i (me.0, (i, Some y) ∷ []) n after
told_alone p i n me me' after y hand known t e a =
    subst (λ (v : View). ArrivesWith i (v, (i, Some y) ∷ []) n after) (ap (λ (m : Hold). m.0) e)
    (arrives_alone i (Some y) t.1.0 me' after n (subst (λ (q : TilePlan). AreBelow q i t.1.0) (sym known ∙ sym (ap (λ (m : Hold). m.0.plan) e)) t.1.1.1)
    (ap (λ (m : Hold). m.1) (turned_in p i me me' (Some y) t e)) (a i (ap (λ (m : Hold). m.0.hand) e ∙ hand)))

-- a seat that has the merge above part i in its hand
pub merge_seat : (s : Inside) (t : Seat (Option PartState) View) (i n m : ℕ) (y : Option PartState) (after : Hold) → IsSeat s → IsPlan s.token.me.0.plan → s.token.me.0.hand ≡ Some i → i ≢ root s.token.me.0.plan → n ≢ 0
    → ArrivesWith i (s.token.me.0, (i, y) ∷ []) n after → m ≡ parent s.token.me.0.plan i
    → t.me ≡ (after.0, (parent s.token.me.0.plan i, None) ∷ (sibling s.token.me.0.plan i, None) ∷ (i, None) ∷ []) → IsSeat (record { token = t; number = s.number; hand = Some m; missed = s.missed })
merge_seat s t i n m y after ok plan hand inner found_some a above slots = record {
  number = ok.number ∙ sym (ap (λ (v : View). v.number) view);
  hand = ap (λ (k : ℕ). Some k) above ∙ sym (ap (λ (v : View). v.hand) view);
  missed = ok.missed ∙ sym (ap (λ (v : View). v.missed) view);
  idle = subst (λ (v : View). v.missed ≡ true → v.hand ≡ None) (sym view) (λ m. absurd (no_hand s.token.me.0 i (ok.idle m) hand));
  share = subst (λ (v : View). 1 ≤ v.share) (sym view) ok.share;
  workers = subst (λ (v : View). v.workers ≤ 64) (sym view) ok.workers;
  part = subst (λ (v : View). (j : ℕ) → v.hand ≡ Some j → j < part_count v.plan) (sym view) (λ j e. subst (λ (k : ℕ). k < part_count s.token.me.0.plan) (same_Some (parent s.token.me.0.plan i) j e) (parent_inner s.token.me.0.plan plan i is_part inner));
  turns = subst (λ (h : Hold). AreTurns h.0.plan h.0.hand h.1) (sym me_is) (None, ((sibling s.token.me.0.plan i, None) ∷ (i, None) ∷ [], (refl, (parent_merge s.token.me.0.plan plan i is_part, halves))));
}
  where
    is_part : i < part_count s.token.me.0.plan
    is_part = ok.part i hand

    after_view : after.0 ≡ with_merge s.token.me.0 (parent s.token.me.0.plan i) n
    after_view = (a.both found_some).1.0

    view : t.me.0 ≡ with_merge s.token.me.0 (parent s.token.me.0.plan i) n
    view = ap (λ (h : Hold). h.0) slots ∙ after_view

    me_is : t.me ≡ (with_merge s.token.me.0 (parent s.token.me.0.plan i) n, (parent s.token.me.0.plan i, None) ∷ (sibling s.token.me.0.plan i, None) ∷ (i, None) ∷ [])
    me_is = slots ∙ ap (λ (v : View). (v, (parent s.token.me.0.plan i, None) ∷ (sibling s.token.me.0.plan i, None) ∷ (i, None) ∷ [])) after_view

    halves : AreBothHalves s.token.me.0.plan (parent s.token.me.0.plan i) (sibling s.token.me.0.plan i) i
    halves = record {
      first = sibling_part s.token.me.0.plan plan i is_part inner;
      second = is_part;
      first_parent = ((has_parent s.token.me.0.plan i plan is_part).inner inner).sibling_parent;
      second_parent = refl;
      tolls = sibling_toll s.token.me.0.plan plan i is_part inner;
    }
