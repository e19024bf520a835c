-- A part arrives at a word that is not 0: the merge above it is in the seat's hand afterwards, and both halves are spent.
use Rattle.std.proofs.Common.{◌≡◌, ◌≢◌, ℕ, ◌+◌, ◌<◌, ◌≤◌, ◌⊎◌, inl, inr, sym, ◌∙◌, subst, ap, arith}
use Rattle.std.proofs.lemmas.Bool.{cases_eq}
use Rattle.std.specs.Prelude.{Some}
use mathlib.Core.Option.{some, none}
use Rattle.tile_plan.specs.Plan.{TilePlan, IsPlan, tile_count, root, parent, sibling}
use Rattle.border_climb.specs.Stands.{PartState}
use Rattle.merge_board.specs.Fits.{Fits}
use Rattle.merge_board.specs.Board.{Words, Slots, Views, IsPart, IsFormed, IsAtHome, HasArrived, IsInHand, IsInOrder, Shows, Keeps, IsEmpty, word_of, door, toll}
use Rattle.merge_board.specs.Seats.{with_merge}
use Rattle.merge_board.specs.declared.view.View.{View}
use Rattle.merge_board.proofs.Doors.{door_some, toll_some, toll_two, door_of_root, one_word, same_door, parent_merge, parent_later, parent_inner, sibling_part, sibling_door, sibling_toll}
use Rattle.merge_board.proofs.Places.{root_toll}
use Rattle.merge_board.proofs.Changes.{IsChange, shown, still_shown, one_view, no_hand, one_hand}

module _ (p : TilePlan) (workers : ℕ) (w : Words) (slots : Slots) (views : Views) (plan : IsPlan p) (order : IsInOrder p workers w slots views)
    (id i : ℕ) (v : View) (shows : Shows views id v) (hand : v.hand ≡ Some i) where
  pub is_part : IsPart p i
  is_part = (order.in_hand id i v shows hand).0

  pub in_hand : IsInHand p w i
  in_hand = (order.in_hand id i v shows hand).1

  -- the root's word is 0 where the root arrives
  pub root_zero : i ≡ root p → w (door p i) ≡ 0
  root_zero r = let le : w (door p i) ≤ 1 = subst (λ (k : ℕ). w (door p k) ≤ 1) (sym r) order.root_range in
      let one = sym (root_toll p i plan is_part r) in zero_of le one (λ e. in_hand.1 (inl e))
    where
      zero_of : w (door p i) ≤ 1 → toll p i ≡ 1 → (w (door p i) ≡ toll p i → ⊥) → w (door p i) ≡ 0
      zero_of le one ne = elim (cases_eq (w (door p i)) 1) [
        | inl same ↦ absurd (ne (same ∙ sym one))
        | inr other ↦ omega arith
      ]

  -- elsewhere a word that is not 0 tells that the sibling is at home
  pub sibling_home : i ≢ root p → w (door p i) ≢ 0 → IsAtHome p w (sibling p i)
  sibling_home inner found_some = ap w (sibling_door p plan i is_part inner) ∙ weigh (order.range i is_part) (λ e. in_hand.1 (inl e)) (λ e. in_hand.1 (inr e))
    where
      weigh : w (door p i) ≤ 3 → w (door p i) ≢ toll p i → w (door p i) ≢ 3 → w (door p i) ≡ toll p (sibling p i)
      weigh le a b = let s = sibling_toll p plan i is_part inner in let t = toll_some p plan i is_part in let u = toll_two p plan i is_part in omega arith

  -- and the merge above is not formed
  pub parent_unformed : i ≢ root p → w (door p i) ≢ 3
  parent_unformed inner e = in_hand.1 (inr e)

  pub sibling_slot : i ≢ root p → w (door p i) ≢ 0 → (z : PartState) × (Keeps slots (sibling p i) z × Fits p (sibling p i) z)
  sibling_slot inner found_some = order.homes (sibling p i) (sibling_part p plan i is_part inner) (sibling_home inner found_some)

  pub parent_slot : i ≢ root p → IsEmpty slots (parent p i)
  parent_slot inner = order.merges (parent p i) (parent_merge p plan i is_part) (parent_inner p plan i is_part inner) (parent_unformed inner)

module _ (p : TilePlan) (workers : ℕ) (w w' : Words) (slots slots' slots'' : Slots) (views views' : Views) (plan : IsPlan p) (order : IsInOrder p workers w slots views)
    (id i n : ℕ) (v : View) (shows : Shows views id v) (hand : v.hand ≡ Some i) (inner : i ≢ root p) (some_word : w (door p i) ≢ 0)
    (words : IsChange w w' (door p i) 3) (slot : IsChange slots slots' (sibling p i) (some none)) (slot' : IsChange slots' slots'' (parent p i) (some none))
    (view : IsChange views views' id (some (with_merge v (parent p i) n))) where
  part_i : IsPart p i
  part_i = is_part p workers w slots views plan order id i v shows hand

  hand_i : IsInHand p w i
  hand_i = in_hand p workers w slots views plan order id i v shows hand

  draws : w' 0 ≡ w 0
  draws = words.others 0 (let s = door_some p plan i part_i in λ e. omega arith)

  at_door : (j : ℕ) → door p j ≡ door p i → w' (door p j) ≡ 3
  at_door j e = ap w' e ∙ words.here

  same_at : (j : ℕ) → door p j ≢ door p i → w' (door p j) ≡ w (door p j)
  same_at j ne = words.others (door p j) ne

  home_sibling : IsAtHome p w (sibling p i)
  home_sibling = sibling_home p workers w slots views plan order id i v shows hand inner some_word

  unformed : w (door p i) ≢ 3
  unformed = parent_unformed p workers w slots views plan order id i v shows hand inner

  -- the two halves had been formed
  halves_formed : (j : ℕ) → IsPart p j → door p j ≡ door p i → IsFormed p w j
  halves_formed j h e = by (same_door p plan i j part_i h (sym e))
    where
      by : (i ≡ j) ⊎ (toll p i + toll p j ≡ 3) → IsFormed p w j
      by (inl same) = subst (λ (x : ℕ). IsFormed p w x) same hand_i.0
      by (inr three) = order.formed j h (inl (ap w e ∙ sym (ap w (sibling_door p plan i part_i inner)) ∙ home_sibling ∙ tolls))
        where
          tolls : toll p (sibling p i) ≡ toll p j
          tolls = let s = sibling_toll p plan i part_i inner in omega arith

  -- the other half had arrived
  other_arrived : (j : ℕ) → IsPart p j → door p j ≡ door p i → i ≢ j → HasArrived p w j
  other_arrived j h e ne = by (same_door p plan i j part_i h (sym e))
    where
      by : (i ≡ j) ⊎ (toll p i + toll p j ≡ 3) → HasArrived p w j
      by (inl same) = absurd (ne same)
      by (inr three) = inl (ap w e ∙ sym (ap w (sibling_door p plan i part_i inner)) ∙ home_sibling ∙ tolls)
        where
          tolls : toll p (sibling p i) ≡ toll p j
          tolls = let s = sibling_toll p plan i part_i inner in omega arith

  parent_at : IsPart p (parent p i)
  parent_at = parent_inner p plan i part_i inner

  parent_low : tile_count p ≤ parent p i
  parent_low = parent_merge p plan i part_i

  parent_not_formed : IsFormed p w (parent p i) → ⊥
  parent_not_formed (inl f) = let a = f.0 in let b = parent_low in omega arith
  parent_not_formed (inr f) = unformed f.1

  parent_formed : IsFormed p w' (parent p i)
  parent_formed = inr (parent_low, words.here)

  formed_on : (j : ℕ) → IsFormed p w j → IsFormed p w' j
  formed_on j (inl t) = inl (t.0, (let d = draws in let b = t.1 in omega arith))
  formed_on j (inr m) = elim (cases_eq (word_of p j) (door p i)) [
    | inl same ↦ inr (m.0, ap w' same ∙ words.here)
    | inr ne ↦ inr (m.0, words.others (word_of p j) ne ∙ m.1)
  ]

  formed_back : (j : ℕ) → j ≢ parent p i → IsFormed p w' j → IsFormed p w j
  formed_back j apart (inl t) = inl (t.0, (let d = draws in let b = t.1 in omega arith))
  formed_back j apart (inr m) = elim (cases_eq (word_of p j) (door p i)) [
    | inl same ↦ absurd (apart (one_word p plan j (parent p i) m.0 parent_low same))
    | inr ne ↦ inr (m.0, sym (words.others (word_of p j) ne) ∙ m.1)
  ]

  arrived_back : (j : ℕ) → door p j ≢ door p i → HasArrived p w' j → HasArrived p w j
  arrived_back j ne (inl home) = inl (sym (same_at j ne) ∙ home)
  arrived_back j ne (inr spent) = inr (sym (same_at j ne) ∙ spent)

  arrived_on : (j : ℕ) → HasArrived p w j → HasArrived p w' j
  arrived_on j a = elim (cases_eq (door p j) (door p i)) [
    | inl same ↦ inr (at_door j same)
    | inr ne ↦ moved ne a
  ]
    where
      moved : door p j ≢ door p i → HasArrived p w j → HasArrived p w' j
      moved ne (inl home) = inl (same_at j ne ∙ home)
      moved ne (inr spent) = inr (same_at j ne ∙ spent)

  parent_door : door p (parent p i) ≢ door p i
  parent_door e = let a = one_word p plan (parent p (parent p i)) (parent p i) (parent_merge p plan (parent p i) parent_at) parent_low e in let b = parent_later p plan (parent p i) parent_at in omega arith

  parent_away : HasArrived p w' (parent p i) → ⊥
  parent_away a = parent_not_formed (order.formed (parent p i) parent_at (arrived_back (parent p i) parent_door a))

  before : (k : ℕ) (u : View) → Shows views' k u → ((k ≡ id) × (with_merge v (parent p i) n ≡ u)) ⊎ ((k ≢ id) × Shows views k u)
  before k u s = shown views views' id k (with_merge v (parent p i) n) u view s

  merge_hand : (u : View) (j : ℕ) → with_merge v (parent p i) n ≡ u → u.hand ≡ Some j → parent p i ≡ j
  merge_hand u j e h = one_hand u (parent p i) j (sym (ap (λ (x : View). x.hand) e)) h

  other_seat : (k j : ℕ) (u : View) → Shows views k u → u.hand ≡ Some j → j ≢ i → k ≢ id
  other_seat k j u s h ne e = ne (one_hand u j i h (ap (λ (x : View). x.hand) (one_view views id u v (subst (λ (a : ℕ). Shows views a u) e s) shows) ∙ hand))

  range : (j : ℕ) → IsPart p j → w' (door p j) ≤ 3
  range j h = elim (cases_eq (door p j) (door p i)) [
    | inl same ↦ (let a = at_door j same in omega arith)
    | inr ne ↦ (let a = same_at j ne in let b = order.range j h in omega arith)
  ]

  formed : (j : ℕ) → IsPart p j → HasArrived p w' j → IsFormed p w' j
  formed j h a = elim (cases_eq (door p j) (door p i)) [
    | inl same ↦ formed_on j (halves_formed j h same)
    | inr ne ↦ formed_on j (order.formed j h (arrived_back j ne a))
  ]

  hands : (k j : ℕ) (u : View) → Shows views' k u → u.hand ≡ Some j → IsPart p j × IsInHand p w' j
  hands k j u s h = by (before k u s)
    where
      other : k ≢ id → Shows views k u → IsPart p j × IsInHand p w' j
      other ne t = (at.0, (formed_on j at.1.0, still))
        where
          at : IsPart p j × IsInHand p w j
          at = order.in_hand k j u t h

          apart : i ≢ j
          apart e = ne (order.once k id j u v t shows h (hand ∙ ap (λ (x : ℕ). Some x) e))

          still : HasArrived p w' j → ⊥
          still a = elim (cases_eq (door p j) (door p i)) [
            | inl same ↦ at.1.1 (other_arrived j at.0 same apart)
            | inr diff ↦ at.1.1 (arrived_back j diff a)
          ]

      by : ((k ≡ id) × (with_merge v (parent p i) n ≡ u)) ⊎ ((k ≢ id) × Shows views k u) → IsPart p j × IsInHand p w' j
      by (inl t) = subst (λ (x : ℕ). IsPart p x × IsInHand p w' x) (merge_hand u j t.1 h) (parent_at, (parent_formed, parent_away))
      by (inr t) = other t.0 t.1

  held : (j : ℕ) → IsPart p j → IsInHand p w' j → (k : ℕ) × ((u : View) × (Shows views' k u × (u.hand ≡ Some j)))
  held j h a = elim (cases_eq j (parent p i)) [
    | inl same ↦ (id, (with_merge v (parent p i) n, (view.here, ap (λ (x : ℕ). Some x) (sym same))))
    | inr ne ↦ other ne
  ]
    where
      arrived_i : HasArrived p w' i
      arrived_i = inr words.here

      apart : j ≢ i
      apart e = a.1 (subst (λ (x : ℕ). HasArrived p w' x) (sym e) arrived_i)

      other : j ≢ parent p i → (k : ℕ) × ((u : View) × (Shows views' k u × (u.hand ≡ Some j)))
      other ne = (was.0, (was.1.0, (still_shown views views' id was.0 (with_merge v (parent p i) n) was.1.0 view (other_seat was.0 j was.1.0 was.1.1.0 was.1.1.1 apart) was.1.1.0, was.1.1.1)))
        where
          was : (k : ℕ) × ((u : View) × (Shows views k u × (u.hand ≡ Some j)))
          was = order.held j h (formed_back j ne a.0, λ b. a.1 (arrived_on j b))

  once : (k l j : ℕ) (a b : View) → Shows views' k a → Shows views' l b → a.hand ≡ Some j → b.hand ≡ Some j → k ≡ l
  once k l j a b s t g h = by (before k a s) (before l b t)
    where
      never : (m : ℕ) (c : View) → Shows views m c → c.hand ≡ Some j → parent p i ≡ j → ⊥
      never m c q r e = parent_not_formed (subst (λ (x : ℕ). IsFormed p w x) (sym e) (order.in_hand m j c q r).1.0)

      by : ((k ≡ id) × (with_merge v (parent p i) n ≡ a)) ⊎ ((k ≢ id) × Shows views k a) → ((l ≡ id) × (with_merge v (parent p i) n ≡ b)) ⊎ ((l ≢ id) × Shows views l b) → k ≡ l
      by (inl x) (inl z) = x.0 ∙ sym z.0
      by (inl x) (inr z) = absurd (never l b z.1 h (merge_hand a j x.1 g))
      by (inr x) (inl z) = absurd (never k a x.1 g (merge_hand b j z.1 h))
      by (inr x) (inr z) = order.once k l j a b x.1 z.1 g h

  not_sibling : (j : ℕ) → (IsFormed p w j → ⊥) → j ≢ sibling p i
  not_sibling j un e = un (subst (λ (a : ℕ). IsFormed p w a) (sym e) (order.formed (sibling p i) (sibling_part p plan i part_i inner) (inl home_sibling)))

  kept : (j : ℕ) → j ≢ sibling p i → j ≢ parent p i → slots'' j ≡ slots j
  kept j a b = slot'.others j b ∙ slot.others j a

  pub second_arrives : IsInOrder p workers w' slots'' views'
  second_arrives = record {
    range = range;
    root_range = root_range;
    formed = formed;
    in_hand = hands;
    held = held;
    once = once;
    missed = λ k u s h. elim (before k u s) [
      | inl t ↦ absurd (no_hand v i (order.missed id v shows (ap (λ (x : View). x.missed) t.1 ∙ h)).0 hand)
      | inr t ↦ (let m = order.missed k u t.1 h in (m.0, (let d = draws in let b = m.1 in omega arith)))
    ];
    left_over = λ k u s h. elim (before k u s) [
      | inl t ↦ absurd (no_hand v i (order.left_over id v shows (ap (λ (x : View). x.share) t.1 ∙ h)).0 hand)
      | inr t ↦ order.left_over k u t.1 h
    ];
    plan = λ k u s h. elim (before k u s) [
      | inl t ↦ subst (λ (x : View). 1 ≤ x.share → (x.plan ≡ p) × (x.workers ≡ workers)) t.1 (λ q. order.plan id v shows q) h
      | inr t ↦ order.plan k u t.1 h
    ];
    seen = λ k u s. elim (before k u s) [
      | inl t ↦ subst (λ (x : View). (x.seen ≤ w' 0) × (x.seen ≤ tile_count p)) t.1 (let m = order.seen id v shows in ((let d = draws in let b = m.0 in omega arith), m.1))
      | inr t ↦ (let m = order.seen k u t.1 in ((let d = draws in let b = m.0 in omega arith), m.1))
    ];
    tiles = λ t low high. (let was = order.tiles t low (let d = draws in omega arith) in
        (was.0, (kept t (not_sibling t (λ f. tile_unborn t low high f)) (λ e. tile_low t low e) ∙ was.1.0, was.1.1)));
    merges = λ m low h ne. kept m (not_sibling m (λ f. ne (merge_formed m low (formed_on m f)))) (λ e. ne (ap (λ (x : ℕ). w' (word_of p x)) e ∙ words.here))
        ∙ order.merges m low h (λ e. ne (merge_formed m low (formed_on m (inr (low, e)))));
    homes = λ j h home. at_home j h home (cases_eq (door p j) (door p i));
  }
    where
      root_range : w' (door p (root p)) ≤ 1
      root_range = let a = same_at (root p) (λ e. inner (door_of_root p plan i part_i e)) in let b = order.root_range in omega arith

      tile_unborn : (t : ℕ) → t < tile_count p → w' 0 ≤ t → IsFormed p w t → ⊥
      tile_unborn t low high (inl f) = let a = f.1 in let d = draws in omega arith
      tile_unborn t low high (inr f) = let a = f.0 in omega arith

      tile_low : (t : ℕ) → t < tile_count p → t ≡ parent p i → ⊥
      tile_low t low e = let a = parent_low in omega arith

      merge_formed : (m : ℕ) → tile_count p ≤ m → IsFormed p w' m → w' (word_of p m) ≡ 3
      merge_formed m low (inl f) = absurd (let a = f.0 in omega arith)
      merge_formed m low (inr f) = f.1

      at_home : (j : ℕ) → IsPart p j → IsAtHome p w' j → (door p j ≡ door p i) ⊎ (door p j ≢ door p i) → (part : PartState) × (Keeps slots'' j part × Fits p j part)
      at_home j h home (inl same) = absurd (let a = at_door j same in let b : w' (door p j) ≡ toll p j = home in let c = toll_two p plan j h in omega arith)
      at_home j h home (inr diff) = (was.0, (kept j not_sib not_parent ∙ was.1.0, was.1.1))
        where
          was_home : IsAtHome p w j
          was_home = sym (same_at j diff) ∙ home

          was : (part : PartState) × (Keeps slots j part × Fits p j part)
          was = order.homes j h was_home

          not_sib : j ≢ sibling p i
          not_sib e = diff (ap (λ (x : ℕ). door p x) e ∙ sibling_door p plan i part_i inner)

          not_parent : j ≢ parent p i
          not_parent e = parent_not_formed (subst (λ (x : ℕ). IsFormed p w x) e (order.formed j h (inl was_home)))
