-- What the table asks where a seat is split or two are joined, at the start and at the end.
use Rattle.std.proofs.Common.{◌≡◌, ℕ, ◌+◌, ◌≤◌, ◌⊎◌, inl, inr, refl, sym, ◌∙◌, subst, arith, true, false, List, [], ◌∷◌, ◌++◌}
use Rattle.std.specs.Prelude.{Some, None, slice_set, slice_index}
use mathlib.Core.Option.{some}
use lib.ListN.{get_elem?}
use Rattle.atomic_table.specs.Table.{Splits, Joins}
use Rattle.atomic_table.proofs.Lists.{at_snoc, at_longer, set_else}
use Rattle.tile_plan.specs.Plan.{TilePlan}
use Rattle.merge_board.specs.Board.{IsBoard, Shows, missed_share}
use Rattle.merge_board.specs.Seats.{split_left, split_right, joined_seats, left_over}
use Rattle.merge_board.specs.declared.view.View.{View}
use Rattle.merge_board.proofs.Changes.{IsChange, shown, apart_from}
use Rattle.merge_board.proofs.Calm.{IsCalm, calm_as, calm_views}
use Rattle.merge_board.proofs.Sums.{total_set, total_snoc, missed_none, missed_whole, changed_list, within_list}
use Rattle.merge_board.proofs.Seen.{most_seen_set, most_seen_snoc, most_seen_less}

-- a seat that is idle, has not missed and stands for two workers at least is split
pub may_split : (p : TilePlan) (workers id : ℕ) (v : View) → v.hand ≡ None → v.missed ≡ false → 2 ≤ v.share → Splits (IsBoard p workers) id v (split_left v) (split_right v)
may_split p workers id v hand fresh share s b shows = record {
  plan = b.plan;
  some_worker = b.some_worker;
  few_workers = b.few_workers;
  words = b.words;
  slots = b.slots;
  order = calm_views p workers (slice_index s.words) (get_elem? s.homes) (get_elem? s.views) (get_elem? (slice_set s.views id (split_left v) ++ split_right v ∷ [])) b.order old kept;
  shares = (let t = total_set (λ x. x.share) s.views id v (split_left v) shows in let q = total_snoc (λ x. x.share) (slice_set s.views id (split_left v)) (split_right v) in let r = b.shares in omega arith);
  draws = (let t = total_set missed_share s.views id v (split_left v) shows in let q = total_snoc missed_share (slice_set s.views id (split_left v)) (split_right v) in
      let a = missed_none v fresh in let c = missed_none (split_left v) fresh in
      let m = most_seen_set s.views id v (split_left v) shows (omega arith) in let n = most_seen_snoc (slice_set s.views id (split_left v)) (split_right v) in let r = b.draws in omega arith);
}
  where
    calm : IsCalm p workers (slice_index s.words) v
    calm = calm_as p workers (slice_index s.words) (get_elem? s.homes) (get_elem? s.views) b.order id v shows hand

    left_calm : IsCalm p workers (slice_index s.words) (split_left v)
    left_calm = record { hand = hand; missed = calm.missed; plan = λ q. calm.plan (omega arith); seen = calm.seen; over = λ e. absurd (omega arith) }

    right_calm : IsCalm p workers (slice_index s.words) (split_right v)
    right_calm = record { hand = hand; missed = calm.missed; plan = λ q. calm.plan (omega arith); seen = (omega arith, omega arith); over = λ e. refl }

    view : IsChange (get_elem? s.views) (get_elem? (slice_set s.views id (split_left v))) id (some (split_left v))
    view = changed_list s.views id (split_left v) (within_list s.views id v shows)

    old : (k : ℕ) (u : View) → Shows (get_elem? (slice_set s.views id (split_left v) ++ split_right v ∷ [])) k u → Shows (get_elem? s.views) k u ⊎ IsCalm p workers (slice_index s.words) u
    old k u h = by (at_snoc (slice_set s.views id (split_left v)) (split_right v) u k h)
      where
        by : (get_elem? (slice_set s.views id (split_left v)) k ≡ some u) ⊎ (split_right v ≡ u) → Shows (get_elem? s.views) k u ⊎ IsCalm p workers (slice_index s.words) u
        by (inr e) = inr (subst (λ (x : View). IsCalm p workers (slice_index s.words) x) e right_calm)
        by (inl t) = elim (shown (get_elem? s.views) (get_elem? (slice_set s.views id (split_left v))) id k (split_left v) u view t) [
          | inl e ↦ inr (subst (λ (x : View). IsCalm p workers (slice_index s.words) x) e.1 left_calm)
          | inr e ↦ inl e.1
        ]

    kept : (k i : ℕ) (u : View) → Shows (get_elem? s.views) k u → u.hand ≡ Some i → Shows (get_elem? (slice_set s.views id (split_left v) ++ split_right v ∷ [])) k u
    kept k i u h e = at_longer (slice_set s.views id (split_left v)) (split_right v ∷ []) k u (view.others k (apart_from (get_elem? s.views) id k i u v shows hand h e) ∙ h)

-- two seats that are idle and have missed are joined
pub may_join : (p : TilePlan) (workers id other : ℕ) (v u : View) → v.hand ≡ None → v.missed ≡ true → u.hand ≡ None → u.missed ≡ true → 1 ≤ v.share → Joins (IsBoard p workers) id v other u (joined_seats v u) left_over
may_join p workers id other v u hand missed hand' missed' share s b shows ne shows' = record {
  plan = b.plan;
  some_worker = b.some_worker;
  few_workers = b.few_workers;
  words = b.words;
  slots = b.slots;
  order = calm_views p workers (slice_index s.words) (get_elem? s.homes) (get_elem? s.views) (get_elem? (slice_set (slice_set s.views id (joined_seats v u)) other left_over)) b.order old kept;
  shares = (let t = total_set (λ x. x.share) s.views id v (joined_seats v u) shows in let q = total_set (λ x. x.share) (slice_set s.views id (joined_seats v u)) other u left_over shows' in let r = b.shares in omega arith);
  draws = (let t = total_set missed_share s.views id v (joined_seats v u) shows in let q = total_set missed_share (slice_set s.views id (joined_seats v u)) other u left_over shows' in
      let a = missed_whole v missed in let c = missed_whole u missed' in let d = missed_whole (joined_seats v u) missed in let e = missed_none left_over refl in
      let m = most_seen_set s.views id v (joined_seats v u) shows (omega arith) in let n = most_seen_less (slice_set s.views id (joined_seats v u)) other id u left_over (joined_seats v u) (λ same. ne (sym same)) shows' view.here (omega arith) in let r = b.draws in omega arith);
}
  where
    views' : List View
    views' = slice_set s.views id (joined_seats v u)

    other_shows : Shows (get_elem? s.views) other u
    other_shows = sym (set_else s.views id other (joined_seats v u) ne) ∙ shows'

    calm : IsCalm p workers (slice_index s.words) v
    calm = calm_as p workers (slice_index s.words) (get_elem? s.homes) (get_elem? s.views) b.order id v shows hand

    calm' : IsCalm p workers (slice_index s.words) u
    calm' = calm_as p workers (slice_index s.words) (get_elem? s.homes) (get_elem? s.views) b.order other u other_shows hand'

    joined_calm : IsCalm p workers (slice_index s.words) (joined_seats v u)
    joined_calm = record { hand = hand; missed = calm.missed; plan = λ q. calm.plan share; seen = (let a = calm.seen in let c = calm'.seen in (omega arith, omega arith)); over = λ e. absurd (let a : v.share + u.share ≡ 0 = e in omega arith) }

    over_calm : IsCalm p workers (slice_index s.words) left_over
    over_calm = record { hand = refl; missed = λ e. calm.missed missed; plan = λ q. absurd (omega arith); seen = (omega arith, omega arith); over = λ e. refl }

    view : IsChange (get_elem? s.views) (get_elem? (slice_set s.views id (joined_seats v u))) id (some (joined_seats v u))
    view = changed_list s.views id (joined_seats v u) (within_list s.views id v shows)

    view' : IsChange (get_elem? (slice_set s.views id (joined_seats v u))) (get_elem? (slice_set (slice_set s.views id (joined_seats v u)) other left_over)) other (some left_over)
    view' = changed_list (slice_set s.views id (joined_seats v u)) other left_over (within_list (slice_set s.views id (joined_seats v u)) other u shows')

    old : (k : ℕ) (x : View) → Shows (get_elem? (slice_set (slice_set s.views id (joined_seats v u)) other left_over)) k x → Shows (get_elem? s.views) k x ⊎ IsCalm p workers (slice_index s.words) x
    old k x h = elim (shown (get_elem? (slice_set s.views id (joined_seats v u))) (get_elem? (slice_set (slice_set s.views id (joined_seats v u)) other left_over)) other k left_over x view' h) [
      | inl e ↦ inr (subst (λ (z : View). IsCalm p workers (slice_index s.words) z) e.1 over_calm)
      | inr t ↦ elim (shown (get_elem? s.views) (get_elem? (slice_set s.views id (joined_seats v u))) id k (joined_seats v u) x view t.1) [
        | inl e ↦ inr (subst (λ (z : View). IsCalm p workers (slice_index s.words) z) e.1 joined_calm)
        | inr e ↦ inl e.1
      ]
    ]

    kept : (k i : ℕ) (x : View) → Shows (get_elem? s.views) k x → x.hand ≡ Some i → Shows (get_elem? (slice_set (slice_set s.views id (joined_seats v u)) other left_over)) k x
    kept k i x h e = view'.others k (apart_from (get_elem? s.views) other k i x u other_shows hand' h e) ∙ view.others k (apart_from (get_elem? s.views) id k i x v shows hand h e) ∙ h
