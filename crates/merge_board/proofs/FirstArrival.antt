-- A part arrives at a word that is 0: the part is at home afterwards, and the seat is idle.
use Rattle.std.proofs.Common.{◌≡◌, ◌≢◌, ℕ, ◌<◌, ◌≤◌, ◌⊎◌, inl, inr, sym, ◌∙◌, subst, ap, arith}
use Rattle.std.proofs.lemmas.Bool.{cases_eq}
use Rattle.std.specs.Prelude.{Some, None}
use mathlib.Core.Option.{some}
use Rattle.tile_plan.specs.Plan.{TilePlan, IsPlan, tile_count, root}
use Rattle.border_climb.specs.Stands.{PartState}
use Rattle.merge_board.specs.Fits.{Fits}
use Rattle.merge_board.specs.Board.{Words, Slots, Views, IsPart, IsFormed, IsAtHome, HasArrived, IsInHand, IsInOrder, Shows, Keeps, word_of, door, toll}
use Rattle.merge_board.specs.Seats.{idle}
use Rattle.merge_board.specs.declared.view.View.{View}
use Rattle.merge_board.proofs.Doors.{door_some, toll_some, toll_two, door_of_root, one_part}
use Rattle.merge_board.proofs.Places.{root_toll}
use Rattle.merge_board.proofs.Changes.{IsChange, shown, still_shown, one_view, no_hand, one_hand}

module _ (p : TilePlan) (workers : ℕ) (w w' : Words) (slots slots' : Slots) (views views' : Views) (plan : IsPlan p) (order : IsInOrder p workers w slots views)
    (id i n : ℕ) (v : View) (y : PartState) (shows : Shows views id v) (hand : v.hand ≡ Some i) (zero_word : w (door p i) ≡ 0)
    (words : IsChange w w' (door p i) (toll p i)) (slot : IsChange slots slots' i (some (some (Some y)))) (view : IsChange views views' id (some (idle v n))) where
  is_part : IsPart p i
  is_part = (order.in_hand id i v shows hand).0

  in_hand : IsInHand p w i
  in_hand = (order.in_hand id i v shows hand).1

  draws : w' 0 ≡ w 0
  draws = words.others 0 (let s = door_some p plan i is_part in λ e. omega arith)

  two : toll p i ≤ 2
  two = toll_two p plan i is_part

  at_door : (j : ℕ) → door p j ≡ door p i → w' (door p j) ≡ toll p i
  at_door j e = ap w' e ∙ words.here

  was_zero : (j : ℕ) → door p j ≡ door p i → w (door p j) ≡ 0
  was_zero j e = ap w e ∙ zero_word

  -- who has arrived in this step is the part
  newly : (j : ℕ) → IsPart p j → door p j ≡ door p i → HasArrived p w' j → i ≡ j
  newly j h e (inl home) = one_part p plan i j is_part h (sym e) (sym (at_door j e) ∙ home)
  newly j h e (inr spent) = absurd (let a : toll p i ≡ 3 = sym (at_door j e) ∙ spent in let t = two in omega arith)

  formed_on : (j : ℕ) → IsFormed p w j → IsFormed p w' j
  formed_on j (inl t) = inl (t.0, (let d = draws in let b = t.1 in omega arith))
  formed_on j (inr m) = elim (cases_eq (word_of p j) (door p i)) [
    | inl same ↦ absurd (let a : 3 ≡ 0 = sym m.1 ∙ ap w same ∙ zero_word in omega arith)
    | inr ne ↦ inr (m.0, words.others (word_of p j) ne ∙ m.1)
  ]

  formed_back : (j : ℕ) → IsFormed p w' j → IsFormed p w j
  formed_back j (inl t) = inl (t.0, (let d = draws in let b = t.1 in omega arith))
  formed_back j (inr m) = elim (cases_eq (word_of p j) (door p i)) [
    | inl same ↦ absurd (let a : 3 ≡ toll p i = sym m.1 ∙ ap w' same ∙ words.here in let t = two in omega arith)
    | inr ne ↦ inr (m.0, sym (words.others (word_of p j) ne) ∙ m.1)
  ]

  same_at : (j : ℕ) → door p j ≢ door p i → w' (door p j) ≡ w (door p j)
  same_at j ne = words.others (door p j) ne

  arrived_back : (j : ℕ) → door p j ≢ door p i → HasArrived p w' j → HasArrived p w j
  arrived_back j ne (inl home) = inl (sym (same_at j ne) ∙ home)
  arrived_back j ne (inr spent) = inr (sym (same_at j ne) ∙ spent)

  arrived_on : (j : ℕ) → IsPart p j → HasArrived p w j → HasArrived p w' j
  arrived_on j h a = elim (cases_eq (door p j) (door p i)) [
    | inl same ↦ absurd (none_yet same a)
    | inr ne ↦ moved ne a
  ]
    where
      none_yet : door p j ≡ door p i → HasArrived p w j → ⊥
      none_yet e (inl home) = let a = was_zero j e in let b : w (door p j) ≡ toll p j = home in let s = toll_some p plan j h in omega arith
      none_yet e (inr spent) = let a = was_zero j e in let b : w (door p j) ≡ 3 = spent in omega arith

      moved : door p j ≢ door p i → HasArrived p w j → HasArrived p w' j
      moved ne (inl home) = inl (same_at j ne ∙ home)
      moved ne (inr spent) = inr (same_at j ne ∙ spent)

  is_home : IsAtHome p w' i
  is_home = words.here

  -- the seat of another part is another seat
  other_seat : (k j : ℕ) (u : View) → Shows views k u → u.hand ≡ Some j → j ≢ i → k ≢ id
  other_seat k j u s h ne e = ne (one_hand u j i h (ap (λ (x : View). x.hand) (one_view views id u v (subst (λ (a : ℕ). Shows views a u) e s) shows) ∙ hand))

  not_unborn : (j : ℕ) → (IsFormed p w j → ⊥) → j ≢ i
  not_unborn j un e = un (subst (λ (a : ℕ). IsFormed p w a) (sym e) in_hand.0)

  idle_hand : (u : View) → idle v n ≡ u → u.hand ≡ None
  idle_hand u e = sym (ap (λ (x : View). x.hand) e)

  before : (k : ℕ) (u : View) → Shows views' k u → ((k ≡ id) × (idle v n ≡ u)) ⊎ ((k ≢ id) × Shows views k u)
  before k u s = shown views views' id k (idle v n) u view s

  range : (j : ℕ) → IsPart p j → w' (door p j) ≤ 3
  range j h = elim (cases_eq (door p j) (door p i)) [
    | inl same ↦ (let a = at_door j same in let t = two in omega arith)
    | inr ne ↦ (let a = same_at j ne in let b = order.range j h in omega arith)
  ]

  root_range : w' (door p (root p)) ≤ 1
  root_range = elim (cases_eq (door p (root p)) (door p i)) [
    | inl same ↦ (let a = at_door (root p) same in let b = root_toll p i plan is_part (door_of_root p plan i is_part same) in omega arith)
    | inr ne ↦ (let a = same_at (root p) ne in let b = order.root_range in omega arith)
  ]

  formed : (j : ℕ) → IsPart p j → HasArrived p w' j → IsFormed p w' j
  formed j h a = elim (cases_eq (door p j) (door p i)) [
    | inl same ↦ formed_on j (subst (λ (x : ℕ). IsFormed p w x) (newly j h same a) in_hand.0)
    | inr ne ↦ formed_on j (order.formed j h (arrived_back j ne a))
  ]

  hands : (k j : ℕ) (u : View) → Shows views' k u → u.hand ≡ Some j → IsPart p j × IsInHand p w' j
  hands k j u s h = by (before k u s)
    where
      other : k ≢ id → Shows views k u → IsPart p j × IsInHand p w' j
      other ne t = (at.0, (formed_on j at.1.0, still))
        where
          at : IsPart p j × IsInHand p w j
          at = order.in_hand k j u t h

          apart : i ≢ j
          apart e = ne (order.once k id j u v t shows h (hand ∙ ap (λ (x : ℕ). Some x) e))

          still : HasArrived p w' j → ⊥
          still a = elim (cases_eq (door p j) (door p i)) [
            | inl same ↦ apart (newly j at.0 same a)
            | inr diff ↦ at.1.1 (arrived_back j diff a)
          ]

      by : ((k ≡ id) × (idle v n ≡ u)) ⊎ ((k ≢ id) × Shows views k u) → IsPart p j × IsInHand p w' j
      by (inl t) = absurd (no_hand u j (idle_hand u t.1) h)
      by (inr t) = other t.0 t.1

  held : (j : ℕ) → IsPart p j → IsInHand p w' j → (k : ℕ) × ((u : View) × (Shows views' k u × (u.hand ≡ Some j)))
  held j h a = (was.0, (was.1.0, (still_shown views views' id was.0 (idle v n) was.1.0 view (other_seat was.0 j was.1.0 was.1.1.0 was.1.1.1 apart) was.1.1.0, was.1.1.1)))
    where
      apart : j ≢ i
      apart e = a.1 (subst (λ (x : ℕ). HasArrived p w' x) (sym e) (inl is_home))

      was : (k : ℕ) × ((u : View) × (Shows views k u × (u.hand ≡ Some j)))
      was = order.held j h (formed_back j a.0, λ b. a.1 (arrived_on j h b))

  once : (k l j : ℕ) (a b : View) → Shows views' k a → Shows views' l b → a.hand ≡ Some j → b.hand ≡ Some j → k ≡ l
  once k l j a b s t g h = by (before k a s) (before l b t)
    where
      by : ((k ≡ id) × (idle v n ≡ a)) ⊎ ((k ≢ id) × Shows views k a) → ((l ≡ id) × (idle v n ≡ b)) ⊎ ((l ≢ id) × Shows views l b) → k ≡ l
      by (inl x) z = absurd (no_hand a j (idle_hand a x.1) g)
      by (inr x) (inl z) = absurd (no_hand b j (idle_hand b z.1) h)
      by (inr x) (inr z) = order.once k l j a b x.1 z.1 g h

  pub first_arrives : Fits p i y → IsInOrder p workers w' slots' views'
  first_arrives fits = record {
    range = range;
    root_range = root_range;
    formed = formed;
    in_hand = hands;
    held = held;
    once = once;
    missed = λ k u s h. elim (before k u s) [
      | inl t ↦ absurd (no_hand v i (order.missed id v shows (ap (λ (x : View). x.missed) t.1 ∙ h)).0 hand)
      | inr t ↦ (let m = order.missed k u t.1 h in (m.0, (let d = draws in let b = m.1 in omega arith)))
    ];
    left_over = λ k u s h. elim (before k u s) [
      | inl t ↦ absurd (no_hand v i (order.left_over id v shows (ap (λ (x : View). x.share) t.1 ∙ h)).0 hand)
      | inr t ↦ order.left_over k u t.1 h
    ];
    plan = λ k u s h. elim (before k u s) [
      | inl t ↦ subst (λ (x : View). 1 ≤ x.share → (x.plan ≡ p) × (x.workers ≡ workers)) t.1 (λ q. order.plan id v shows q) h
      | inr t ↦ order.plan k u t.1 h
    ];
    seen = λ k u s. elim (before k u s) [
      | inl t ↦ subst (λ (x : View). (x.seen ≤ w' 0) × (x.seen ≤ tile_count p)) t.1 (let m = order.seen id v shows in ((let d = draws in let b = m.0 in omega arith), m.1))
      | inr t ↦ (let m = order.seen k u t.1 in ((let d = draws in let b = m.0 in omega arith), m.1))
    ];
    tiles = λ t low high. (let was = order.tiles t low (let d = draws in omega arith) in
        (was.0, (slot.others t (not_unborn t (λ f. tile_unborn t low high f)) ∙ was.1.0, was.1.1)));
    merges = λ m low h ne. slot.others m (not_unborn m (λ f. ne (merge_formed m low (formed_on m f)))) ∙ order.merges m low h (λ e. ne (merge_formed m low (formed_on m (inr (low, e)))));
    homes = λ j h home. elim (cases_eq j i) [
      | inl same ↦ (y, (ap slots' same ∙ slot.here, subst (λ (x : ℕ). Fits p x y) (sym same) fits))
      | inr ne ↦ at_home j h home ne (cases_eq (door p j) (door p i))
    ];
  }
    where
      tile_unborn : (t : ℕ) → t < tile_count p → w' 0 ≤ t → IsFormed p w t → ⊥
      tile_unborn t low high (inl f) = let a = f.1 in let d = draws in omega arith
      tile_unborn t low high (inr f) = let a = f.0 in omega arith

      merge_formed : (m : ℕ) → tile_count p ≤ m → IsFormed p w' m → w' (word_of p m) ≡ 3
      merge_formed m low (inl f) = absurd (let a = f.0 in omega arith)
      merge_formed m low (inr f) = f.1

      at_home : (j : ℕ) → IsPart p j → IsAtHome p w' j → j ≢ i → (door p j ≡ door p i) ⊎ (door p j ≢ door p i) → (part : PartState) × (Keeps slots' j part × Fits p j part)
      at_home j h home ne (inl same) = absurd (ne (sym (newly j h same (inl home))))
      at_home j h home ne (inr diff) = let was = order.homes j h (sym (same_at j diff) ∙ home) in (was.0, (slot.others j ne ∙ was.1.0, was.1.1))
