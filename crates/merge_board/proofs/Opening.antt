-- The rule holds where a board is set up.
use Rattle.std.proofs.Common.{◌≡◌, ℕ, zero, suc, ◌+◌, ◌<◌, ◌≤◌, inl, inr, refl, sym, ◌∙◌, ap, arith, List, [], ◌∷◌, map}
use Rattle.std.specs.Prelude.{Option, Some, None, slice_index, replicate}
use Rattle.std.proofs.lemmas.List.{length-replicate, length-map}
use Rattle.std.proofs.lemmas.Bool.{true≢false}
use mathlib.Core.Option.{some, some-injective, some-ne-none}
use mathlib.Core.Option as maybe
use lib.ListN.{get_elem?}
use Rattle.atomic_table.specs.Table.{opening}
use Rattle.tile_plan.specs.Plan.{TilePlan, IsPlan, tile_count, root}
use Rattle.border_climb.specs.Stands.{PartState}
use Rattle.merge_board.specs.Board.{Shows, IsPart, IsFormed, HasArrived, IsInOrder, IsBoard, door, word_of, toll}
use Rattle.merge_board.specs.Opening.{AreOpened}
use Rattle.merge_board.specs.Seats.{first_view}
use Rattle.merge_board.specs.declared.view.View.{View}
use Rattle.merge_board.proofs.Changes.{no_hand}
use Rattle.merge_board.proofs.Doors.{toll_some}

-- each word is 0
zeros : (n i : ℕ) → slice_index (replicate n 0) i ≡ 0
zeros zero i = refl
zeros (suc n) zero = refl
zeros (suc n) (suc i) = zeros n i

-- what a slot has is at home
at_home : (xs : List (Option PartState)) (i : ℕ) (x : Option PartState) → get_elem? xs i ≡ some x → get_elem? (map (λ (y : Option PartState). some y) xs) i ≡ some (some x)
at_home [] i x e = absurd (some-ne-none x (sym e))
at_home (y ∷ ys) zero x e = ap (λ (z : Option PartState). some (some z)) (some-injective y x e)
at_home (y ∷ ys) (suc i) x e = at_home ys i x e

-- a list of one view has no other
only_view : (v u : View) (k : ℕ) → get_elem? (v ∷ []) k ≡ some u → (k ≡ 0) × (v ≡ u)
only_view v u zero e = (refl, some-injective v u e)
only_view v u (suc k) e = absurd (some-ne-none u (sym e))

module _ (p : TilePlan) (workers : ℕ) (slots : List (Option PartState)) (plan : IsPlan p) (some_worker : 1 ≤ workers) (few : workers ≤ 64) (opened : AreOpened p slots) where
  abbrev w : ℕ → ℕ
  w = slice_index (replicate (tile_count p + 1) 0)

  zero_at : (i : ℕ) → w i ≡ 0
  zero_at i = zeros (tile_count p + 1) i

  none_arrived : (i : ℕ) → IsPart p i → HasArrived p w i → ⊥
  none_arrived i h (inl home) = let z = zero_at (door p i) in let s = toll_some p plan i h in let e : w (door p i) ≡ toll p i = home in omega arith
  none_arrived i h (inr spent) = let z = zero_at (door p i) in let e : w (door p i) ≡ 3 = spent in omega arith

  none_formed : (i : ℕ) → IsFormed p w i → ⊥
  none_formed i (inl tile) = let z = zero_at 0 in let e : i < w 0 = tile.1 in omega arith
  none_formed i (inr merge) = let z = zero_at (word_of p i) in let e : w (word_of p i) ≡ 3 = merge.1 in omega arith

  abbrev views : ℕ → maybe.Option View
  views = get_elem? (first_view p workers ∷ [])

  is_first : (k : ℕ) (v : View) → Shows views k v → v ≡ first_view p workers
  is_first k v h = sym (only_view (first_view p workers) v k h).1

  empty : (k i : ℕ) (v : View) → Shows views k v → v.hand ≡ Some i → ⊥
  empty k i v h e = no_hand v i (ap (λ (x : View). x.hand) (is_first k v h)) e

  order : IsInOrder p workers w (get_elem? (map (λ (y : Option PartState). some y) slots)) views
  order = record {
    range = λ i h. (let z = zero_at (door p i) in omega arith);
    root_range = (let z = zero_at (door p (root p)) in omega arith);
    formed = λ i h a. absurd (none_arrived i h a);
    in_hand = λ k i v h e. absurd (empty k i v h e);
    held = λ i h a. absurd (none_formed i a.0);
    once = λ k l i u v h g a b. absurd (empty k i u h a);
    missed = λ k v h e. absurd (true≢false (sym e ∙ ap (λ (x : View). x.missed) (is_first k v h)));
    left_over = λ k v h e. (ap (λ (x : View). x.hand) (is_first k v h), ap (λ (x : View). x.seen) (is_first k v h));
    plan = λ k v h e. (ap (λ (x : View). x.plan) (is_first k v h), ap (λ (x : View). x.workers) (is_first k v h));
    seen = λ k v h. (let s : v.seen ≡ 0 = ap (λ (x : View). x.seen) (is_first k v h) in (omega arith, omega arith));
    tiles = λ t h z. (let at = opened.tiles t h in (at.0, (at_home slots t (Some at.0) at.1.0, at.1.1)));
    merges = λ m h i ne. at_home slots m None (opened.merges m h i);
    homes = λ i h e. absurd (none_arrived i h (inl e));
  }

  -- the rule holds at the start
  pub opens_board : IsBoard p workers (opening (replicate (tile_count p + 1) 0) slots (first_view p workers))
  opens_board = record {
    plan = plan;
    some_worker = some_worker;
    few_workers = few;
    words = length-replicate (tile_count p + 1) 0;
    slots = length-map slots (λ (y : Option PartState). some y) ∙ opened.count;
    order = order;
    shares = omega arith;
    draws = (let z : slice_index (replicate (tile_count p + 1) 0) 0 ≡ 0 = zero_at 0 in omega (arith, z));
  }
