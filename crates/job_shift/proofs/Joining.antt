-- What the table asks where a hand is split or two are joined.
use Rattle.std.proofs.Common.{◌≡◌, ℕ, ◌+◌, ◌≤◌, inl, inr, refl, sym, ◌∙◌, subst, ap, arith, true, false, List, [], ◌∷◌, ◌++◌, length, map}
use Rattle.std.proofs.lemmas.List.{length-append, map-append}
use Rattle.std.specs.Prelude.{slice_set}
use mathlib.Core.Option.{some}
use lib.ListN.{get_elem?}
use Rattle.atomic_table.specs.Table.{Splits, Joins}
use Rattle.atomic_table.proofs.Lists.{at_snoc, set_else}
use Rattle.job_shift.specs.Times.{times, times_out, jobs, pair_count, missed_share}
use Rattle.job_shift.specs.Shift.{ShiftTable, IsShift, Shows, steps}
use Rattle.job_shift.specs.Hands.{split_left, split_right, joined_hands, left_over}
use Rattle.job_shift.specs.declared.view.HandView.{HandView}
use Rattle.job_shift.specs.declared.view.Pair.{Pair}
use Rattle.job_shift.proofs.Sums.{times-append, total_set, total_snoc, missed_none, missed_whole}
use Rattle.job_shift.proofs.Views.{each_set}

-- what holds of the old views and of a new one holds of all
each_snoc : (P : HandView → Type 0) (vs : List HandView) (k : ℕ) (w u : HandView) → P w → ((l : ℕ) (x : HandView) → get_elem? vs l ≡ some x → P x) → get_elem? (vs ++ w ∷ []) k ≡ some u → P u
each_snoc P vs k w u here others e = elim (at_snoc vs w u k e) [
  | inl t ↦ others k u t
  | inr t ↦ subst P t here
]

-- a hand that got nothing, has not missed and stands for two workers at least is split
pub may_split : (count workers id : ℕ) (v : HandView) → v.pairs ≡ [] → v.missed ≡ false → 2 ≤ v.share → Splits (IsShift count workers) id v (split_left v) (split_right v)
may_split count workers id v none fresh share s b shows = record {
  some_job = b.some_job;
  few_jobs = b.few_jobs;
  some_worker = b.some_worker;
  few_workers = b.few_workers;
  word = b.word;
  once = λ j h k. out j ∙ b.once j h k;
  not_yet = λ j h. out j ∙ b.not_yet j h;
  no_job = λ j h. out j ∙ b.no_job j h;
  pairs = (let t = total_set pair_count s.views id v l shows in let q = total_snoc pair_count (slice_set s.views id l) r in let a : pair_count r ≡ 0 = ap (λ (ps : List Pair). length ps) none in let z = b.pairs in omega arith);
  shares = (let t = total_set (λ x. x.share) s.views id v l shows in let q = total_snoc (λ x. x.share) (slice_set s.views id l) r in let z = b.shares in omega arith);
  left_over = λ k u e. each (λ (x : HandView). x.share ≡ 0 → x.pairs ≡ []) k u (λ z. none) (λ z. none) b.left_over e;
  known = λ k u e. each (λ (x : HandView). 1 ≤ x.share → (x.count ≡ count) × (x.workers ≡ workers)) k u (λ z. known) (λ z. known) b.known e;
  missed = λ k u e. each (λ (x : HandView). x.missed ≡ true → count ≤ steps s) k u (b.missed id v shows) (b.missed id v shows) b.missed e;
  misses = (let t = total_set missed_share s.views id v l shows in let q = total_snoc missed_share (slice_set s.views id l) r in
      let a = missed_none v fresh in let c = missed_none l fresh in let z = b.misses in omega arith);
}
  where
    l : HandView
    l = split_left v

    r : HandView
    r = split_right v

    out : (j : ℕ) → times_out (slice_set s.views id l ++ r ∷ []) j ≡ times_out s.views j
    out j =
        let t = total_set (λ x. times j (jobs x)) s.views id v l shows in
        let q = total_snoc (λ x. times j (jobs x)) (slice_set s.views id l) r in
        let a : times j (jobs r) ≡ 0 = ap (λ (ps : List Pair). times j (map (λ (p : Pair). p.job) ps)) none in omega arith

    known : (v.count ≡ count) × (v.workers ≡ workers)
    known = b.known id v shows (omega arith)

    each : (P : HandView → Type 0) (k : ℕ) (u : HandView) → P l → P r → ((n : ℕ) (x : HandView) → get_elem? s.views n ≡ some x → P x) → get_elem? (slice_set s.views id l ++ r ∷ []) k ≡ some u → P u
    each P k u left right old e = each_snoc P (slice_set s.views id l) k r u right (λ n x f. each_set P s.views id n l x left old f) e

-- two hands that have missed are joined
pub may_join : (count workers id other : ℕ) (v u : HandView) → v.missed ≡ true → u.missed ≡ true → 1 ≤ v.share → Joins (IsShift count workers) id v other u (joined_hands v u) left_over
may_join count workers id other v u missed missed' share s b shows ne shows' = record {
  some_job = b.some_job;
  few_jobs = b.few_jobs;
  some_worker = b.some_worker;
  few_workers = b.few_workers;
  word = b.word;
  once = λ j h k. out j ∙ b.once j h k;
  not_yet = λ j h. out j ∙ b.not_yet j h;
  no_job = λ j h. out j ∙ b.no_job j h;
  pairs = (let t = total_set pair_count s.views id v w shows in let q = total_set pair_count views' other u left_over shows' in let a : pair_count w ≡ pair_count v + pair_count u = length-append v.pairs u.pairs in let z = b.pairs in omega arith);
  shares = (let t = total_set (λ x. x.share) s.views id v w shows in let q = total_set (λ x. x.share) views' other u left_over shows' in let z = b.shares in omega arith);
  left_over = λ k x e. each (λ (y : HandView). y.share ≡ 0 → y.pairs ≡ []) k x (λ z. absurd (omega arith)) (λ z. refl) b.left_over e;
  known = λ k x e. each (λ (y : HandView). 1 ≤ y.share → (y.count ≡ count) × (y.workers ≡ workers)) k x (λ z. b.known id v shows share) (λ z. absurd (omega arith)) b.known e;
  missed = λ k x e. each (λ (y : HandView). y.missed ≡ true → count ≤ steps s) k x (λ z. b.missed id v shows missed) (λ z. b.missed id v shows missed) b.missed e;
  misses = (let t = total_set missed_share s.views id v w shows in let q = total_set missed_share views' other u left_over shows' in
      let a = missed_whole v missed in let c = missed_whole u missed' in let d = missed_whole w missed in let e = missed_none left_over refl in let z = b.misses in omega arith);
}
  where
    w : HandView
    w = joined_hands v u

    views' : List HandView
    views' = slice_set s.views id w

    out : (j : ℕ) → times_out (slice_set views' other left_over) j ≡ times_out s.views j
    out j =
        let t = total_set (λ x. times j (jobs x)) s.views id v w shows in
        let q = total_set (λ x. times j (jobs x)) views' other u left_over shows' in
        let e : times j (jobs w) ≡ times j (jobs v ++ jobs u) = ap (λ (l : List ℕ). times j l) (map-append (λ (p : Pair). p.job) v.pairs u.pairs) in
        let a = times-append j (jobs v) (jobs u) in omega arith

    each : (P : HandView → Type 0) (k : ℕ) (x : HandView) → P w → P left_over → ((n : ℕ) (y : HandView) → get_elem? s.views n ≡ some y → P y) → get_elem? (slice_set views' other left_over) k ≡ some x → P x
    each P k x new spent old e = each_set P views' other k left_over x spent (λ n y f. each_set P s.views id n w y new old f) e
