-- What the table asks of each step: whatever the board is when the word changes, the step keeps the rule.
use Rattle.std.proofs.Common.{◌≡◌, ℕ, ◌+◌, ◌^◌, ◌%◌, ◌<◌, ◌≤◌, ◌⊎◌, inl, inr, refl, sym, ◌∙◌, subst, ap, arith, false, [], length}
use Rattle.std.proofs.lemmas.Bool.{cases_lt}
use Rattle.std.proofs.Math.Nat.{mod-eq_of_lt}
use Rattle.std.specs.Prelude.{Option, Some, None, slice_set, slice_index}
use mathlib.Core.Option.{some, none}
use lib.ListN.{get_elem?}
use Rattle.atomic_table.specs.Table.{State, Me, Act, keeps, takes, Valid, stepped, Allows, carried_after}
use Rattle.tile_plan.specs.Plan.{TilePlan, tile_count}
use Rattle.border_climb.specs.Stands.{PartState}
use Rattle.merge_board.specs.Fits.{Opened}
use Rattle.merge_board.specs.Board.{IsInOrder, IsBoard, Keeps, missed_share}
use Rattle.merge_board.specs.Seats.{drawn, missing}
use Rattle.merge_board.specs.Steps.{Draws}
use Rattle.merge_board.specs.declared.view.View.{View}
use Rattle.merge_board.proofs.Changes.{IsChange, shown, apart_from}
use Rattle.merge_board.proofs.Calm.{IsCalm, calm_as, calm_views, more_draws}
use Rattle.merge_board.proofs.Draws.{tile_drawn}
use Rattle.merge_board.proofs.Sums.{total_set, missed_all, missed_none, changed_words, changed_list, within_list}
use Rattle.merge_board.proofs.Seen.{most_seen_has, most_seen_within, most_seen_set}
use Rattle.std.proofs.lemmas.List.{length-set}

-- the state of a board
abbrev BoardState : Type 0
BoardState = State (Option PartState) View

-- the numbers of a board don't reach the end of their type
pub draws_small : (p : TilePlan) (workers : ℕ) (s : BoardState) → IsBoard p workers s → slice_index s.words 0 ≤ 65536 + 64
draws_small p workers s b = let a = b.draws in let c = missed_all s.views in let d = b.shares in let e = b.few_workers in let f = b.plan.tiles in
    let g = most_seen_within s.views (tile_count p) (λ k v h. (b.order.seen k v h).1) in omega arith

-- a draw
module _ (p : TilePlan) (workers id slots : ℕ) (me : Me (Option PartState) View) (hand : me.0.hand ≡ None) (fresh : me.0.missed ≡ false) (share : 1 ≤ me.0.share) (known : me.0.plan ≡ p) (none_held : me.1 ≡ []) where
  -- the view and the act of a draw
  pub may_draw : Allows (IsBoard p workers) slots id me 0 (λ z. (z + 1) % 2 ^ 64) (λ n after. Draws me n after)
  may_draw s b long shows small = by (cases_lt (slice_index s.words 0) (tile_count p))
    where
      d : ℕ
      d = slice_index s.words 0

      next_word : (d + 1) % 2 ^ 64 ≡ d + 1
      next_word = let a = draws_small p workers s b in mod-eq_of_lt (omega arith)

      words : IsChange (slice_index s.words) (slice_index (slice_set s.words 0 ((d + 1) % 2 ^ 64))) 0 (d + 1)
      words = let c = changed_words s.words 0 ((d + 1) % 2 ^ 64) (let l = b.words in omega arith) in record { here = c.here ∙ next_word; others = c.others }

      there : id < length s.views
      there = within_list s.views id me.0 shows

      words_long : length (slice_set s.words 0 ((d + 1) % 2 ^ 64)) ≡ tile_count p + 1
      words_long = length-set s.words 0 ((d + 1) % 2 ^ 64) ∙ b.words

      by : (d < tile_count p) ⊎ (tile_count p ≤ d) → (v : View) × (a : Act (Option PartState)) × Valid s.homes me.1 a × IsBoard p workers (stepped s 0 ((d + 1) % 2 ^ 64) id me.1 v a) × Draws me d (v, carried_after me.1 a)
      by (inl more) = (
        drawn me.0 d,
        takes d (Some tile.0),
        tile.1.0,
        hit,
        record {
          seen = (b.order.seen id me.0 shows).0;
          hit = λ e. (refl, (tile.0, (subst (λ (q : TilePlan). Opened q d tile.0) (sym known) tile.1.1, refl)));
          missed = λ e. absurd (let same = ap (λ (q : TilePlan). tile_count q) known in omega arith);
        },
      )
        where
          tile : (part : PartState) × (Keeps (get_elem? s.homes) d part × Opened p d part)
          tile = b.order.tiles d more (omega arith)

          hit : IsBoard p workers (stepped s 0 ((d + 1) % 2 ^ 64) id me.1 (drawn me.0 d) (takes d (Some tile.0)))
          hit = record {
            plan = b.plan;
            some_worker = b.some_worker;
            few_workers = b.few_workers;
            words = words_long;
            slots = length-set s.homes d none ∙ b.slots;
            order = tile_drawn p workers (slice_index s.words) (slice_index (slice_set s.words 0 ((d + 1) % 2 ^ 64))) (get_elem? s.homes) (get_elem? (slice_set s.homes d none)) (get_elem? s.views) (get_elem? (slice_set s.views id (drawn me.0 d)))
                b.plan b.order id me.0 shows hand fresh share more words (changed_list s.homes d none (let l = b.slots in omega arith)) (changed_list s.views id (drawn me.0 d) there);
            shares = (let t = total_set (λ v. v.share) s.views id me.0 (drawn me.0 d) shows in let l = b.shares in omega arith);
            draws = (let l = words.here in let m = most_seen_has (slice_set s.views id (drawn me.0 d)) id (drawn me.0 d) (changed_list s.views id (drawn me.0 d) there).here in omega arith);
          }
      by (inr all) = (
        missing me.0 d,
        keeps,
        tt,
        miss,
        record {
          seen = (b.order.seen id me.0 shows).0;
          hit = λ e. absurd (let same = ap (λ (q : TilePlan). tile_count q) known in omega arith);
          missed = λ e. (refl, refl);
        },
      )
        where
          order_before : IsInOrder p workers (slice_index (slice_set s.words 0 ((d + 1) % 2 ^ 64))) (get_elem? s.homes) (get_elem? s.views)
          order_before = more_draws p workers (slice_index s.words) (slice_index (slice_set s.words 0 ((d + 1) % 2 ^ 64))) (get_elem? s.homes) (get_elem? s.views) b.plan b.order all words

          view : IsChange (get_elem? s.views) (get_elem? (slice_set s.views id (missing me.0 d))) id (some (missing me.0 d))
          view = changed_list s.views id (missing me.0 d) there

          was : IsCalm p workers (slice_index (slice_set s.words 0 ((d + 1) % 2 ^ 64))) me.0
          was = calm_as p workers (slice_index (slice_set s.words 0 ((d + 1) % 2 ^ 64))) (get_elem? s.homes) (get_elem? s.views) order_before id me.0 shows hand

          calm : IsCalm p workers (slice_index (slice_set s.words 0 ((d + 1) % 2 ^ 64))) (missing me.0 d)
          calm = record { hand = hand; missed = λ e. (let l = words.here in omega arith); plan = was.plan; seen = was.seen; over = λ e. absurd (let a : me.0.share ≡ 0 = e in omega arith) }

          miss : IsBoard p workers (stepped s 0 ((d + 1) % 2 ^ 64) id me.1 (missing me.0 d) keeps)
          miss = record {
            plan = b.plan;
            some_worker = b.some_worker;
            few_workers = b.few_workers;
            words = words_long;
            slots = b.slots;
            order = calm_views p workers (slice_index (slice_set s.words 0 ((d + 1) % 2 ^ 64))) (get_elem? s.homes) (get_elem? s.views) (get_elem? (slice_set s.views id (missing me.0 d))) order_before
                (λ k u h. elim (shown (get_elem? s.views) (get_elem? (slice_set s.views id (missing me.0 d))) id k (missing me.0 d) u view h) [
                  | inl t ↦ inr (subst (λ (x : View). IsCalm p workers (slice_index (slice_set s.words 0 ((d + 1) % 2 ^ 64))) x) t.1 calm)
                  | inr t ↦ inl t.1
                ])
                (λ k i u h e. view.others k (apart_from (get_elem? s.views) id k i u me.0 shows hand h e) ∙ h);
            shares = (let t = total_set (λ v. v.share) s.views id me.0 (missing me.0 d) shows in let l = b.shares in omega arith);
            draws = (let l = words.here in let t = total_set missed_share s.views id me.0 (missing me.0 d) shows in let f = missed_none me.0 fresh in let g : missed_share (missing me.0 d) ≡ me.0.share = refl in
                let m = most_seen_set s.views id me.0 (missing me.0 d) shows (omega arith) in let o = b.draws in omega arith);
          }
