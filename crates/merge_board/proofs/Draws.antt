-- A draw that gives a tile, one that misses, and what splits and joins of seats change.
use Rattle.std.proofs.Common.{◌≡◌, ◌≢◌, ℕ, ◌+◌, ◌<◌, ◌≤◌, ◌⊎◌, inl, inr, sym, ◌∙◌, subst, ap, arith, true, false}
use Rattle.std.proofs.lemmas.Bool.{cases_eq}
use Rattle.std.specs.Prelude.{Some, None}
use mathlib.Core.Option.{some, none}
use Rattle.tile_plan.specs.Plan.{TilePlan, IsPlan, tile_count, root}
use Rattle.merge_board.specs.Board.{Words, Slots, Views, IsPart, IsFormed, IsAtHome, HasArrived, IsInHand, IsInOrder, Shows, word_of, door}
use Rattle.merge_board.specs.Seats.{drawn}
use Rattle.merge_board.specs.declared.view.View.{View}
use Rattle.merge_board.proofs.Doors.{door_some}
use Rattle.merge_board.proofs.Changes.{IsChange, shown, still_shown, one_view, no_hand, one_hand}

module _ (p : TilePlan) (workers : ℕ) (w w' : Words) (slots slots' : Slots) (views views' : Views) (plan : IsPlan p) (order : IsInOrder p workers w slots views)
    (id : ℕ) (v : View) (shows : Shows views id v) (hand : v.hand ≡ None) (fresh : v.missed ≡ false) (share : 1 ≤ v.share) (more : w 0 < tile_count p)
    (words : IsChange w w' 0 (w 0 + 1)) (slot : IsChange slots slots' (w 0) (some none)) (view : IsChange views views' id (some (drawn v (w 0)))) where
  same_at : (j : ℕ) → IsPart p j → w' (door p j) ≡ w (door p j)
  same_at j h = words.others (door p j) (let s = door_some p plan j h in λ e. omega arith)

  word_at : (m : ℕ) → tile_count p ≤ m → w' (word_of p m) ≡ w (word_of p m)
  word_at m low = words.others (word_of p m) (λ e. omega arith)

  formed_on : (j : ℕ) → IsFormed p w j → IsFormed p w' j
  formed_on j (inl t) = inl (t.0, (let d = words.here in let b = t.1 in omega arith))
  formed_on j (inr m) = inr (m.0, word_at j m.0 ∙ m.1)

  formed_back : (j : ℕ) → j ≢ w 0 → IsFormed p w' j → IsFormed p w j
  formed_back j ne (inl t) = inl (t.0, (let d = words.here in let b = t.1 in omega arith))
  formed_back j ne (inr m) = inr (m.0, sym (word_at j m.0) ∙ m.1)

  arrived_back : (j : ℕ) → IsPart p j → HasArrived p w' j → HasArrived p w j
  arrived_back j h (inl home) = inl (sym (same_at j h) ∙ home)
  arrived_back j h (inr spent) = inr (sym (same_at j h) ∙ spent)

  arrived_on : (j : ℕ) → IsPart p j → HasArrived p w j → HasArrived p w' j
  arrived_on j h (inl home) = inl (same_at j h ∙ home)
  arrived_on j h (inr spent) = inr (same_at j h ∙ spent)

  unborn : IsFormed p w (w 0) → ⊥
  unborn (inl t) = let b = t.1 in omega arith
  unborn (inr m) = let b = m.0 in omega arith

  tile_part : IsPart p (w 0)
  tile_part = omega arith

  before : (k : ℕ) (u : View) → Shows views' k u → ((k ≡ id) × (drawn v (w 0) ≡ u)) ⊎ ((k ≢ id) × Shows views k u)
  before k u s = shown views views' id k (drawn v (w 0)) u view s

  tile_hand : (u : View) (j : ℕ) → drawn v (w 0) ≡ u → u.hand ≡ Some j → w 0 ≡ j
  tile_hand u j e h = one_hand u (w 0) j (sym (ap (λ (x : View). x.hand) e)) h

  other_seat : (k j : ℕ) (u : View) → Shows views k u → u.hand ≡ Some j → k ≢ id
  other_seat k j u s h e = no_hand u j (ap (λ (x : View). x.hand) (one_view views id u v (subst (λ (a : ℕ). Shows views a u) e s) shows) ∙ hand) h

  hands : (k j : ℕ) (u : View) → Shows views' k u → u.hand ≡ Some j → IsPart p j × IsInHand p w' j
  hands k j u s h = by (before k u s)
    where
      drawn_now : IsInHand p w' (w 0)
      drawn_now = (inl (more, (let d = words.here in omega arith)), λ a. unborn (order.formed (w 0) tile_part (arrived_back (w 0) tile_part a)))

      by : ((k ≡ id) × (drawn v (w 0) ≡ u)) ⊎ ((k ≢ id) × Shows views k u) → IsPart p j × IsInHand p w' j
      by (inl t) = subst (λ (x : ℕ). IsPart p x × IsInHand p w' x) (tile_hand u j t.1 h) (tile_part, drawn_now)
      by (inr t) = let at = order.in_hand k j u t.1 h in (at.0, (formed_on j at.1.0, λ a. at.1.1 (arrived_back j at.0 a)))

  held : (j : ℕ) → IsPart p j → IsInHand p w' j → (k : ℕ) × ((u : View) × (Shows views' k u × (u.hand ≡ Some j)))
  held j h a = elim (cases_eq j (w 0)) [
    | inl same ↦ (id, (drawn v (w 0), (view.here, ap (λ (x : ℕ). Some x) (sym same))))
    | inr ne ↦ other ne
  ]
    where
      other : j ≢ w 0 → (k : ℕ) × ((u : View) × (Shows views' k u × (u.hand ≡ Some j)))
      other ne = (was.0, (was.1.0, (still_shown views views' id was.0 (drawn v (w 0)) was.1.0 view (other_seat was.0 j was.1.0 was.1.1.0 was.1.1.1) was.1.1.0, was.1.1.1)))
        where
          was : (k : ℕ) × ((u : View) × (Shows views k u × (u.hand ≡ Some j)))
          was = order.held j h (formed_back j ne a.0, λ b. a.1 (arrived_on j h b))

  once : (k l j : ℕ) (a b : View) → Shows views' k a → Shows views' l b → a.hand ≡ Some j → b.hand ≡ Some j → k ≡ l
  once k l j a b s t g h = by (before k a s) (before l b t)
    where
      never : (m : ℕ) (c : View) → Shows views m c → c.hand ≡ Some j → w 0 ≡ j → ⊥
      never m c q r e = unborn (subst (λ (x : ℕ). IsFormed p w x) (sym e) (order.in_hand m j c q r).1.0)

      by : ((k ≡ id) × (drawn v (w 0) ≡ a)) ⊎ ((k ≢ id) × Shows views k a) → ((l ≡ id) × (drawn v (w 0) ≡ b)) ⊎ ((l ≢ id) × Shows views l b) → k ≡ l
      by (inl x) (inl z) = x.0 ∙ sym z.0
      by (inl x) (inr z) = absurd (never l b z.1 h (tile_hand a j x.1 g))
      by (inr x) (inl z) = absurd (never k a x.1 g (tile_hand b j z.1 h))
      by (inr x) (inr z) = order.once k l j a b x.1 z.1 g h

  pub tile_drawn : IsInOrder p workers w' slots' views'
  tile_drawn = record {
    range = λ j h. (let a = same_at j h in let b = order.range j h in omega arith);
    root_range = (let a = same_at (root p) (omega arith) in let b = order.root_range in omega arith);
    formed = λ j h a. formed_on j (order.formed j h (arrived_back j h a));
    in_hand = hands;
    held = held;
    once = once;
    missed = λ k u s h. elim (before k u s) [
      | inl t ↦ absurd (let e : true ≡ false = sym (ap (λ (x : View). x.missed) t.1 ∙ h) ∙ fresh in cc)
      | inr t ↦ (let m = order.missed k u t.1 h in (m.0, (let d = words.here in let b = m.1 in omega arith)))
    ];
    left_over = λ k u s h. elim (before k u s) [
      | inl t ↦ absurd (let e : v.share ≡ 0 = ap (λ (x : View). x.share) t.1 ∙ h in omega arith)
      | inr t ↦ order.left_over k u t.1 h
    ];
    plan = λ k u s h. elim (before k u s) [
      | inl t ↦ subst (λ (x : View). 1 ≤ x.share → (x.plan ≡ p) × (x.workers ≡ workers)) t.1 (λ q. order.plan id v shows q) h
      | inr t ↦ order.plan k u t.1 h
    ];
    seen = λ k u s. elim (before k u s) [
      | inl t ↦ subst (λ (x : View). (x.seen ≤ w' 0) × (x.seen ≤ tile_count p)) t.1 ((let d = words.here in omega arith), (omega arith))
      | inr t ↦ (let m = order.seen k u t.1 in ((let d = words.here in let b = m.0 in omega arith), m.1))
    ];
    tiles = λ t low high. (let was = order.tiles t low (let d = words.here in omega arith) in
        (was.0, (slot.others t (let d = words.here in λ e. omega arith) ∙ was.1.0, was.1.1)));
    merges = λ m low h ne. slot.others m (λ e. omega arith) ∙ order.merges m low h (λ e. ne (word_at m low ∙ e));
    homes = λ j h home. (let was_home : IsAtHome p w j = sym (same_at j h) ∙ home in let was = order.homes j h was_home in
        (was.0, (slot.others j (λ e. unborn (subst (λ (x : ℕ). IsFormed p w x) e (order.formed j h (inl was_home)))) ∙ was.1.0, was.1.1)));
  }
