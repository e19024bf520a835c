-- The slots that are out with a seat, and what exchanges and turns leave of them.
use Rattle.std.proofs.Common.{◌≡◌, ℕ, ◌≤◌, ◌⊎◌, inl, inr, refl, ◌∙◌, subst, ap, arith, List, [], ◌∷◌}
use Rattle.std.proofs.lemmas.List.{length-set}
use Rattle.std.proofs.lemmas.List.Elements.{All-nil, All-cons, All-head, All-tail, All-push, All-same}
use Rattle.std.specs.Prelude.{Option, Some, None, slice_index}
use lib.ListN.{get_elem?}
use Rattle.atomic_table.specs.Table.{State, turned}
use Rattle.tile_plan.specs.Plan.{TilePlan, tile_count, parent}
use Rattle.border_climb.specs.Stands.{PartState}
use Rattle.merge_board.specs.Board.{IsBoard, IsPart, IsFormed, IsInHand, Words, Shows, word_of}
use Rattle.merge_board.specs.Exchanges.{IsOut, AreOut, SlotState, held_after, with_slot}
use Rattle.merge_board.specs.RuleOfKey.{rule_of}
use Rattle.merge_board.specs.Steps.{Hold, AreTurns, AreBelow}
use Rattle.merge_board.specs.declared.view.View.{View}
use Rattle.merge_board.specs.declared.view.Key.{Key}
use Rattle.merge_board.proofs.Calm.{free_slot, spent_away}
use Rattle.merge_board.proofs.Sums.{changed_list}

abbrev Held : Type 0
Held = List (ℕ × Option PartState)

module _ (p : TilePlan) (workers : ℕ) (s : State (Option PartState) View) (b : IsBoard p workers s) where
  abbrev w : ℕ → ℕ
  w = slice_index s.words

  hand_out : (k i : ℕ) (v : View) → Shows (get_elem? s.views) k v → v.hand ≡ Some i → IsOut p w i
  hand_out k i v shows hand = let at = b.order.in_hand k i v shows hand in record { part = at.0; out = inl at.1; born = λ un. un at.1.0; away = λ home. at.1.1 (inl home) }

  -- a half of a merge that is formed
  half_out : (i a : ℕ) → tile_count p ≤ i → IsFormed p w i → IsPart p a → parent p a ≡ i → IsOut p w a
  half_out i a merge formed part e = record { part = part; out = inr spent; born = λ un. un (b.order.formed a part (inr spent)); away = spent_away p w a b.plan part spent }
    where
      three : IsFormed p w i → w (word_of p i) ≡ 3
      three (inl f) = absurd (let t = f.0 in omega arith)
      three (inr f) = f.1

      spent : w (word_of p (parent p a)) ≡ 3
      spent = ap (λ (m : ℕ). w (word_of p m)) e ∙ three formed

  below_out : (i : ℕ) (below : Held) → IsFormed p w i → AreBelow p i below → AreOut p w below
  below_out i [] formed tile = All-nil (λ (slot : ℕ × Option PartState). IsOut p w slot.0)
  below_out i (x ∷ []) formed impossible = absurd impossible
  below_out i (x ∷ y ∷ []) formed halves = All-cons (λ (slot : ℕ × Option PartState). IsOut p w slot.0) x (y ∷ []) (half_out i x.0 halves.0 formed halves.1.first halves.1.first_parent)
      (All-cons (λ (slot : ℕ × Option PartState). IsOut p w slot.0) y [] (half_out i y.0 halves.0 formed halves.1.second halves.1.second_parent) (All-nil (λ (slot : ℕ × Option PartState). IsOut p w slot.0)))
  below_out i (x ∷ y ∷ z ∷ zs) formed impossible = absurd impossible

  -- the slots of the part in a seat's hand and of its halves are out
  turns_out : (k : ℕ) (v : View) (held : Held) (hand : Option ℕ) → Shows (get_elem? s.views) k v → v.hand ≡ hand → AreTurns p hand held → AreOut p w held
  turns_out k v held None shows e t = All-same (λ (slot : ℕ × Option PartState). IsOut p w slot.0) held [] t (All-nil (λ (slot : ℕ × Option PartState). IsOut p w slot.0))
  turns_out k v held (Some i) shows e t = All-same (λ (slot : ℕ × Option PartState). IsOut p w slot.0) held ((i, t.0) ∷ t.1.0) t.1.1.0
      (All-cons (λ (slot : ℕ × Option PartState). IsOut p w slot.0) (i, t.0) t.1.0 (hand_out k i v shows e) (below_out i t.1.0 (b.order.in_hand k i v shows e).1.0 t.1.1.1))

  -- the rule says nothing of what is in such a slot
  any_slot : (i : ℕ) (slot : SlotState) → IsOut p w i → IsBoard p workers (with_slot s i slot)
  any_slot i slot o = record {
    plan = b.plan;
    some_worker = b.some_worker;
    few_workers = b.few_workers;
    words = b.words;
    slots = length-set s.homes i slot ∙ b.slots;
    order = free_slot p workers w (get_elem? s.homes) (get_elem? (with_slot s i slot).homes) (get_elem? s.views) b.order i _ (formed o.out) o.away (changed_list s.homes i slot (let l = b.slots in let h = o.part in omega arith));
    shares = b.shares;
    draws = b.draws;
  }
    where
      formed : IsInHand p w i ⊎ (w (word_of p (parent p i)) ≡ 3) → IsFormed p w i
      formed (inl a) = a.0
      formed (inr spent) = b.order.formed i o.part (inr spent)

pub seat_out : (key : Key) (s : State (Option PartState) View) (k : ℕ) (me : Hold) → rule_of key s → Shows (get_elem? s.views) k me.0 → 1 ≤ me.0.share → AreTurns me.0.plan me.0.hand me.1 → AreOut key.plan.value (slice_index s.words) me.1
seat_out key s k me b shows share t = turns_out key.plan.value key.workers s b k me.0 me.1 me.0.hand shows refl (subst (λ (q : TilePlan). AreTurns q me.0.hand me.1) (b.order.plan k me.0 shows share).0 t)

pub slot_free : (key : Key) (s : State (Option PartState) View) (i : ℕ) (slot : SlotState) → rule_of key s → IsOut key.plan.value (slice_index s.words) i → rule_of key (with_slot s i slot)
slot_free key s i slot b o = any_slot key.plan.value key.workers s b i slot o

-- an exchange changes what the first slot has, and no slot's number
pub turns_kept : (p : TilePlan) (hand : Option ℕ) (held : Held) (x : Option PartState) → AreTurns p hand held → AreTurns p hand (held_after x held)
turns_kept p None held x t = ap (λ (l : Held). held_after x l) t
turns_kept p (Some i) held x t = (x, (t.1.0, (ap (λ (l : Held). held_after x l) t.1.1.0, t.1.1.1)))

pub out_kept : (p : TilePlan) (w : Words) (held : Held) (x : Option PartState) → AreOut p w held → AreOut p w (held_after x held)
out_kept p w [] x all = all
out_kept p w (y ∷ ys) x all = All-cons (λ (slot : ℕ × Option PartState). IsOut p w slot.0) (y.0, x) ys (All-head (λ (slot : ℕ × Option PartState). IsOut p w slot.0) y ys all) (All-tail (λ (slot : ℕ × Option PartState). IsOut p w slot.0) y ys all)

-- a turn brings another of the slots to the front
pub out_turned : (p : TilePlan) (w : Words) (held : Held) → AreOut p w held → AreOut p w (turned held)
out_turned p w [] all = all
out_turned p w (y ∷ ys) all = All-push (λ (slot : ℕ × Option PartState). IsOut p w slot.0) ys y (All-tail (λ (slot : ℕ × Option PartState). IsOut p w slot.0) y ys all) (All-head (λ (slot : ℕ × Option PartState). IsOut p w slot.0) y ys all)
