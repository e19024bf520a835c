-- What the table asks of a step: whatever the shift is when the word changes, the step keeps the rule.
use Rattle.std.proofs.Common.{◌≡◌, ◌≢◌, ℕ, ◌+◌, ◌^◌, ◌%◌, ◌<◌, ◌≤◌, ◌⊎◌, inl, inr, refl, sym, ◌∙◌, subst, ap, arith, true, false, [], ◌∷◌, length, List}
use Rattle.std.proofs.lemmas.Bool.{cases_lt, cases_eq}
use Rattle.std.proofs.lemmas.List.{length-set}
use Rattle.std.proofs.lemmas.Option.{none-some}
use Rattle.std.proofs.Math.Nat.{mod-eq_of_lt}
use Rattle.std.specs.Prelude.{slice_set, slice_index}
use mathlib.Core.Option.{Option, some}
use lib.ListN.{get_elem?}
use Rattle.atomic_table.specs.Table.{Act, keeps, Valid, stepped, Allows, carried_after}
use Rattle.job_shift.specs.Times.{times, jobs, times_out, pair_count, missed_share}
use Rattle.job_shift.specs.Shift.{ShiftTable, IsShift, Shows, steps}
use Rattle.job_shift.specs.Hands.{with_job, missing}
use Rattle.job_shift.specs.Steps.{Hold, Steps, Moment}
use Rattle.job_shift.specs.declared.view.HandView.{HandView}
use Rattle.job_shift.proofs.Sums.{one_if, one_if-same, one_if-other, times-with_job, pair_count-with_job, total_set, total_has, missed_all, missed_none}
use Rattle.job_shift.proofs.Views.{word_set, each_set}

-- the word doesn't reach the end of its type
pub steps_small : (count workers : ℕ) (s : ShiftTable) → IsShift count workers s → steps s ≤ 4096 + 64
steps_small count workers s b = let a = b.misses in let c = missed_all s.views in let d = b.shares in let e = b.few_workers in let f = b.few_jobs in omega arith

not_missed : (v : HandView) → v.missed ≡ false → v.missed ≡ true → ⊥
not_missed v f t = let e : false ≡ true = sym f ∙ t in cc

-- the word became n, one more than it was, and the view v of hand id became another
module _ (count workers id n : ℕ) (s : ShiftTable) (homes : List (Option (Unit {0}))) (b : IsShift count workers s) (v : HandView) (shows : Shows s id v)
    (fresh : v.missed ≡ false) (share : 1 ≤ v.share) (known : (v.count ≡ count) × (v.workers ≡ workers)) (more : n ≡ steps s + 1) where
  abbrev changed : HandView → ShiftTable
  changed w = record { words = slice_set s.words 0 n; homes = homes; views = slice_set s.views id w }

  word_after : (w : HandView) → steps (changed w) ≡ steps s + 1
  word_after w = word_set s.words n b.word ∙ more

  out_after : (w : HandView) (j : ℕ) → times_out (slice_set s.views id w) j + times j (jobs v) ≡ times_out s.views j + times j (jobs w)
  out_after w j = total_set (λ x. times j (jobs x)) s.views id v w shows

  -- it got the next number
  hit : steps s < count → IsShift count workers (changed (with_job v (steps s)))
  hit low = record {
    some_job = b.some_job;
    few_jobs = b.few_jobs;
    some_worker = b.some_worker;
    few_workers = b.few_workers;
    word = length-set s.words 0 n ∙ b.word;
    once = λ j h k. (elim (cases_eq (steps s) j) [
      | inl same ↦ (let a = out j in let o = one_if-same j (steps s) same in let z = b.not_yet j (omega arith) in omega arith)
      | inr ne ↦ (let a = out j in let o = one_if-other j (steps s) ne in let u = word_after w in let z = b.once j (omega arith) k in omega arith)
    ]);
    not_yet = λ j h. (let a = out j in let u = word_after w in let o = one_if-other j (steps s) (λ e. omega arith) in let z = b.not_yet j (omega arith) in omega arith);
    no_job = λ j h. (let a = out j in let o = one_if-other j (steps s) (λ e. omega arith) in let z = b.no_job j h in omega arith);
    pairs = (let t = total_set pair_count s.views id v w shows in let c = pair_count-with_job (steps s) v in let u = word_after w in let z = b.pairs in omega arith);
    shares = (let t = total_set (λ x. x.share) s.views id v w shows in let z = b.shares in omega arith);
    left_over = λ k u e. each_set (λ (x : HandView). x.share ≡ 0 → x.pairs ≡ []) s.views id k w u (λ z. absurd (omega arith)) b.left_over e;
    known = λ k u e. each_set (λ (x : HandView). 1 ≤ x.share → (x.count ≡ count) × (x.workers ≡ workers)) s.views id k w u (λ z. known) b.known e;
    missed = λ k u e. each_set (λ (x : HandView). x.missed ≡ true → count ≤ steps (changed w)) s.views id k w u (λ z. absurd (not_missed v fresh z)) (λ l x f z. (let u = word_after w in let m = b.missed l x f z in omega arith)) e;
    misses = (let t = total_set missed_share s.views id v w shows in let m = missed_none v fresh in let m' = missed_none w fresh in let u = word_after w in omega arith);
  }
    where
      w : HandView
      w = with_job v (steps s)

      out : (j : ℕ) → times_out (slice_set s.views id (with_job v (steps s))) j ≡ times_out s.views j + one_if j (steps s)
      out j = let a = out_after (with_job v (steps s)) j in let t = times-with_job j (steps s) v in omega arith

  -- all numbers had been handed out
  miss : count ≤ steps s → IsShift count workers (changed (missing v (steps s)))
  miss high = record {
    some_job = b.some_job;
    few_jobs = b.few_jobs;
    some_worker = b.some_worker;
    few_workers = b.few_workers;
    word = length-set s.words 0 n ∙ b.word;
    once = λ j h k. (let a = out_after w j in let z = b.once j (omega arith) k in omega arith);
    not_yet = λ j h. (let a = out_after w j in let u = word_after w in let z = b.not_yet j (omega arith) in omega arith);
    no_job = λ j h. (let a = out_after w j in let z = b.no_job j h in omega arith);
    pairs = (let t = total_set pair_count s.views id v w shows in let u = word_after w in let z = b.pairs in omega arith);
    shares = (let t = total_set (λ x. x.share) s.views id v w shows in let z = b.shares in omega arith);
    left_over = λ k u e. each_set (λ (x : HandView). x.share ≡ 0 → x.pairs ≡ []) s.views id k w u (λ z. absurd (omega arith)) b.left_over e;
    known = λ k u e. each_set (λ (x : HandView). 1 ≤ x.share → (x.count ≡ count) × (x.workers ≡ workers)) s.views id k w u (λ z. known) b.known e;
    missed = λ k u e. each_set (λ (x : HandView). x.missed ≡ true → count ≤ steps (changed w)) s.views id k w u (λ z. (let u = word_after w in omega arith)) (λ l x f z. (let u = word_after w in let m = b.missed l x f z in omega arith)) e;
    misses = (let t = total_set missed_share s.views id v w shows in let m = missed_none v fresh in let m' : missed_share w ≡ v.share = refl in let u = word_after w in let z = b.misses in omega arith);
  }
    where
      w : HandView
      w = missing v (steps s)

-- a step of a hand that has not missed
module _ (id slots : ℕ) (me : Hold) (fresh : me.0.missed ≡ false) (share : 1 ≤ me.0.share) where
  step_here : Allows (IsShift me.0.count me.0.workers) slots id me 0 (λ z. (z + 1) % 2 ^ 64) (λ n after. Steps me n after)
  step_here s b long shows small = elim (cases_lt (steps s) me.0.count) [
    | inl low ↦ (
      with_job me.0 (steps s),
      keeps,
      tt,
      hit me.0.count me.0.workers id ((steps s + 1) % 2 ^ 64) s s.homes b me.0 shows fresh share (refl, refl) next low,
      record { moment = moment; hit = λ h. refl; missed = λ h. absurd (omega arith); slots = refl },
    )
    | inr high ↦ (
      missing me.0 (steps s),
      keeps,
      tt,
      miss me.0.count me.0.workers id ((steps s + 1) % 2 ^ 64) s s.homes b me.0 shows fresh share (refl, refl) next high,
      record { moment = moment; hit = λ h. absurd (omega arith); missed = λ h. refl; slots = refl },
    )
  ]
    where
      next : (steps s + 1) % 2 ^ 64 ≡ steps s + 1
      next = let a = steps_small me.0.count me.0.workers s b in mod-eq_of_lt (omega arith)

      moment : Moment me.0 (steps s)
      moment = record { state = s; rule = b; word = refl; hand = id; shows = shows }

-- the same where the hand's view has the shift's numbers
pub may_step : (count workers id slots : ℕ) (me : Hold) → me.0.missed ≡ false → 1 ≤ me.0.share → me.0.count ≡ count → me.0.workers ≡ workers
    → Allows (IsShift count workers) slots id me 0 (λ z. (z + 1) % 2 ^ 64) (λ n after. Steps me n after)
may_step count workers id slots me fresh share kc kw =
    subst (λ (w : ℕ). Allows (IsShift count w) slots id me 0 (λ z. (z + 1) % 2 ^ 64) (λ n after. Steps me n after)) kw
    (subst (λ (c : ℕ). Allows (IsShift c me.0.workers) slots id me 0 (λ z. (z + 1) % 2 ^ 64) (λ n after. Steps me n after)) kc (step_here id slots me fresh share))

-- what a hand got before a step is less than the number that the step found
pub got_before : (v : HandView) (n : ℕ) → Moment v n → pair_count v ≤ n
got_before v n m = let t = total_has pair_count m.state.views m.hand v m.shows in let p = m.rule.pairs in let w = m.word in omega arith

-- at a moment at which n steps were made, the lesser numbers of jobs have been handed out
pub out_before : (v : HandView) (n : ℕ) (m : Moment v n) (j : ℕ) → j < n → j < v.count → times_out m.state.views j ≡ 1
out_before v n m j low job = m.rule.once j (let w = m.word in omega arith) job

pub not_out : (v : HandView) (n : ℕ) (m : Moment v n) → times_out m.state.views n ≡ 0
not_out v n m = m.rule.not_yet n (let w = m.word in omega arith)
