-- Steps that change views of seats without a part: missing, splitting and joining. And a slot of a spent part.
use Rattle.std.proofs.Common.{◌≡◌, ◌≢◌, ℕ, ◌+◌, ◌<◌, ◌≤◌, ◌⊎◌, inl, inr, sym, ◌∙◌, subst, ap, arith, true}
use Rattle.std.specs.Prelude.{Option, Some, None}
use mathlib.Core.Option.{some, none}
use mathlib.Core.Option as maybe
use Rattle.tile_plan.specs.Plan.{TilePlan, IsPlan, tile_count, root}
use Rattle.border_climb.specs.Stands.{PartState}
use Rattle.merge_board.specs.Board.{Words, Slots, Views, IsPart, IsFormed, IsAtHome, IsSpent, HasArrived, IsInOrder, Shows, word_of, door, toll}
use Rattle.merge_board.specs.declared.view.View.{View}
use Rattle.merge_board.proofs.Doors.{door_some, some_plan, toll_two}
use Rattle.merge_board.proofs.Changes.{IsChange, no_hand}

-- what a view without a part has to keep to
pub record IsCalm (p : TilePlan) (workers : ℕ) (w : Words) (v : View) : Type 0 where
  pub hand : v.hand ≡ None
  pub missed : v.missed ≡ true → tile_count p ≤ w 0
  pub plan : 1 ≤ v.share → (v.plan ≡ p) × (v.workers ≡ workers)
  pub seen : (v.seen ≤ w 0) × (v.seen ≤ tile_count p)
  pub over : v.share ≡ 0 → v.seen ≡ 0

-- a seat's own view is calm where it has no part
pub calm_as : (p : TilePlan) (workers : ℕ) (w : Words) (slots : Slots) (views : Views) → IsInOrder p workers w slots views → (k : ℕ) (v : View) → Shows views k v → v.hand ≡ None → IsCalm p workers w v
calm_as p workers w slots views order k v s h = record { hand = h; missed = λ m. (order.missed k v s m).1; plan = λ q. order.plan k v s q; seen = order.seen k v s; over = λ e. (order.left_over k v s e).1 }

-- each view is an old one or a calm one, and each part is in the hand that it was in
pub calm_views : (p : TilePlan) (workers : ℕ) (w : Words) (slots : Slots) (views views' : Views) → IsInOrder p workers w slots views
    → ((k : ℕ) (u : View) → Shows views' k u → Shows views k u ⊎ IsCalm p workers w u)
    → ((k i : ℕ) (u : View) → Shows views k u → u.hand ≡ Some i → Shows views' k u)
    → IsInOrder p workers w slots views'
calm_views p workers w slots views views' order old kept = record {
  range = order.range;
  root_range = order.root_range;
  formed = order.formed;
  in_hand = λ k i u s h. elim (old k u s) [
    | inl t ↦ order.in_hand k i u t h
    | inr c ↦ absurd (no_hand u i c.hand h)
  ];
  held = λ i a h. (let was = order.held i a h in (was.0, (was.1.0, (kept was.0 i was.1.0 was.1.1.0 was.1.1.1, was.1.1.1))));
  once = λ k l i a b s t g h. both k l i a b (old k a s) (old l b t) g h;
  missed = λ k u s h. elim (old k u s) [
    | inl t ↦ order.missed k u t h
    | inr c ↦ (c.hand, c.missed h)
  ];
  left_over = λ k u s h. elim (old k u s) [
    | inl t ↦ order.left_over k u t h
    | inr c ↦ (c.hand, c.over h)
  ];
  plan = λ k u s h. elim (old k u s) [
    | inl t ↦ order.plan k u t h
    | inr c ↦ c.plan h
  ];
  seen = λ k u s. elim (old k u s) [
    | inl t ↦ order.seen k u t
    | inr c ↦ c.seen
  ];
  tiles = order.tiles;
  merges = order.merges;
  homes = order.homes;
}
  where
    both : (k l i : ℕ) (a b : View) → Shows views k a ⊎ IsCalm p workers w a → Shows views l b ⊎ IsCalm p workers w b → a.hand ≡ Some i → b.hand ≡ Some i → k ≡ l
    both k l i a b (inl s) (inl t) g h = order.once k l i a b s t g h
    both k l i a b (inl s) (inr c) g h = absurd (no_hand b i c.hand h)
    both k l i a b (inr c) t g h = absurd (no_hand a i c.hand g)

-- one more draw, after all tiles were drawn
pub more_draws : (p : TilePlan) (workers : ℕ) (w w' : Words) (slots : Slots) (views : Views) → IsPlan p → IsInOrder p workers w slots views → tile_count p ≤ w 0 → IsChange w w' 0 (w 0 + 1)
    → IsInOrder p workers w' slots views
more_draws p workers w w' slots views plan order all words = record {
  range = λ j h. (let a = same_at j h in let b = order.range j h in omega arith);
  root_range = root_range;
  formed = λ j h a. formed_on j (order.formed j h (arrived_back j h a));
  in_hand = λ k i u s h. (let at = order.in_hand k i u s h in (at.0, (formed_on i at.1.0, λ a. at.1.1 (arrived_back i at.0 a))));
  held = λ i h a. order.held i h (formed_back i a.0, λ b. a.1 (arrived_on i h b));
  once = order.once;
  missed = λ k u s h. (let m = order.missed k u s h in (m.0, (let d = words.here in let b = m.1 in omega arith)));
  left_over = order.left_over;
  plan = order.plan;
  seen = λ k u s. (let m = order.seen k u s in ((let d = words.here in let b = m.0 in omega arith), m.1));
  tiles = λ t low high. absurd (let d = words.here in omega arith);
  merges = λ m low h ne. order.merges m low h (λ e. ne (word_at m low ∙ e));
  homes = λ j h home. order.homes j h (sym (same_at j h) ∙ home);
}
  where
    same_at : (j : ℕ) → IsPart p j → w' (door p j) ≡ w (door p j)
    same_at j h = words.others (door p j) (let s = door_some p plan j h in λ e. omega arith)

    word_at : (m : ℕ) → tile_count p ≤ m → w' (word_of p m) ≡ w (word_of p m)
    word_at m low = words.others (word_of p m) (λ e. omega arith)

    root_range : w' (door p (root p)) ≤ 1
    root_range = let t = some_plan p plan in let a = same_at (root p) (omega arith) in let b = order.root_range in omega arith

    formed_on : (j : ℕ) → IsFormed p w j → IsFormed p w' j
    formed_on j (inl t) = inl (t.0, (let d = words.here in let b = t.1 in omega arith))
    formed_on j (inr m) = inr (m.0, word_at j m.0 ∙ m.1)

    formed_back : (j : ℕ) → IsFormed p w' j → IsFormed p w j
    formed_back j (inl t) = inl (t.0, (let b = t.0 in omega arith))
    formed_back j (inr m) = inr (m.0, sym (word_at j m.0) ∙ m.1)

    arrived_back : (j : ℕ) → IsPart p j → HasArrived p w' j → HasArrived p w j
    arrived_back j h (inl home) = inl (sym (same_at j h) ∙ home)
    arrived_back j h (inr spent) = inr (sym (same_at j h) ∙ spent)

    arrived_on : (j : ℕ) → IsPart p j → HasArrived p w j → HasArrived p w' j
    arrived_on j h (inl home) = inl (same_at j h ∙ home)
    arrived_on j h (inr spent) = inr (same_at j h ∙ spent)

-- the slot of a part that is formed and not at home may have anything
pub free_slot : (p : TilePlan) (workers : ℕ) (w : Words) (slots slots' : Slots) (views : Views) → IsInOrder p workers w slots views
    → (i : ℕ) (x : maybe.Option (maybe.Option (Option PartState))) → IsFormed p w i → (IsAtHome p w i → ⊥) → IsChange slots slots' i x → IsInOrder p workers w slots' views
free_slot p workers w slots slots' views order i x formed away slot = record {
  range = order.range;
  root_range = order.root_range;
  formed = order.formed;
  in_hand = order.in_hand;
  held = order.held;
  once = order.once;
  missed = order.missed;
  left_over = order.left_over;
  plan = order.plan;
  seen = order.seen;
  tiles = λ t low high. (let was = order.tiles t low high in (was.0, (slot.others t (λ e. unborn_tile t low high e) ∙ was.1.0, was.1.1)));
  merges = λ m low at ne. slot.others m (λ e. unborn_merge m low ne e) ∙ order.merges m low at ne;
  homes = λ j at home. (let was = order.homes j at home in (was.0, (slot.others j (λ e. away (subst (λ (k : ℕ). IsAtHome p w k) e home)) ∙ was.1.0, was.1.1)));
}
  where
    unborn_tile : (t : ℕ) → t < tile_count p → w 0 ≤ t → t ≡ i → ⊥
    unborn_tile t low high e = by formed
      where
        by : IsFormed p w i → ⊥
        by (inl f) = let a = f.1 in omega arith
        by (inr f) = let a = f.0 in omega arith

    unborn_merge : (m : ℕ) → tile_count p ≤ m → w (word_of p m) ≢ 3 → m ≡ i → ⊥
    unborn_merge m low ne e = by formed
      where
        by : IsFormed p w i → ⊥
        by (inl f) = let a = f.0 in omega arith
        by (inr f) = ne (ap (λ (x : ℕ). w (word_of p x)) e ∙ f.1)

-- what is spent isn't at home
pub spent_away : (p : TilePlan) (w : Words) (i : ℕ) → IsPlan p → IsPart p i → IsSpent p w i → IsAtHome p w i → ⊥
spent_away p w i plan h spent home = let a : w (door p i) ≡ 3 = spent in let b : w (door p i) ≡ toll p i = home in let c = toll_two p plan i h in omega arith

-- the slot of a spent part may have anything
pub spent_slot : (p : TilePlan) (workers : ℕ) (w : Words) (slots slots' : Slots) (views : Views) → IsPlan p → IsInOrder p workers w slots views
    → (i : ℕ) (x : maybe.Option (maybe.Option (Option PartState))) → IsPart p i → IsSpent p w i → IsChange slots slots' i x → IsInOrder p workers w slots' views
spent_slot p workers w slots slots' views plan order i x h spent slot = free_slot p workers w slots slots' views order i x (order.formed i h (inr spent)) (spent_away p w i plan h spent) slot
