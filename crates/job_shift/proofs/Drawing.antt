-- What a step tells its hand.
use Rattle.std.proofs.Common.{◌≡◌, ℕ, ◌+◌, ◌<◌, ◌≤◌, refl, sym, ◌∙◌, subst, ap, arith, List, [], ◌∷◌, ◌++◌, length}
use Rattle.std.proofs.lemmas.List.{length-map, map-append}
use Rattle.std.proofs.lemmas.List.Elements.{All-append, All-cons, All-nil}
use Rattle.std.specs.Prelude.{All}
use Rattle.job_shift.specs.Times.{jobs, times_out, pair_count}
use Rattle.job_shift.specs.Hands.{with_job, missing}
use Rattle.job_shift.specs.Steps.{Hold, Steps, Moment}
use Rattle.job_shift.specs.HandedNumbers.{Gets, Misses}
use Rattle.job_shift.specs.declared.view.HandView.{HandView}
use Rattle.job_shift.specs.declared.view.Pair.{Pair}
use Rattle.job_shift.proofs.Stepping.{got_before, out_before, not_out}

-- a step that found all numbers handed out
pub misses : (old : HandView) (me after : Hold) (n : ℕ) → old ≡ me.0 → Steps me n after → me.0.count ≤ n → Misses old after.0
misses old me after n known s high =
    subst (λ (u : HandView). Misses u after.0) (sym known) (subst (λ (v : HandView). Misses me.0 v) (sym (s.missed high))
    (record { view = refl; moment = s.moment; all = λ j h. out_before me.0 n s.moment j (omega arith) h }))

-- a step that found a number left
pub gets : (old : HandView) (me after : Hold) (n : ℕ) → old ≡ me.0 → Steps me n after → n < me.0.count → Gets old after.0 n
gets old me after n known s low = subst (λ (u : HandView). Gets u after.0 n) (sym known) (record {
  view = s.hit low;
  below = low;
  moment = s.moment;
  lesser = λ j h. out_before me.0 n s.moment j h (omega arith);
  fresh = not_out me.0 n s.moment;
})

-- the numbers of a hand that got one more
pub jobs-with_job : (v : HandView) (n : ℕ) → jobs (with_job v n) ≡ jobs v ++ n ∷ []
jobs-with_job v n = map-append (λ (p : Pair). p.job) v.pairs (record { job = n; hand = v.number } ∷ [])

-- there is room for one more
pub has_room : (me after : Hold) (n room : ℕ) (list : List ℕ) → Steps me n after → n < me.0.count → list ≡ jobs me.0 → me.0.count ≤ room → length list < room
has_room me after n room list s low same fits =
    let g = got_before me.0 n s.moment in
    let l : length list ≡ pair_count me.0 = ap (λ (l : List ℕ). length l) same ∙ length-map me.0.pairs (λ (p : Pair). p.job) in omega arith

-- each pair is the hand's own, and each number that of a job
pub own_after : (v : HandView) (n : ℕ) → All (λ (p : Pair). p.hand ≡ v.number) v.pairs → All (λ (p : Pair). p.hand ≡ v.number) (with_job v n).pairs
own_after v n old = All-append (λ (p : Pair). p.hand ≡ v.number) v.pairs (record { job = n; hand = v.number } ∷ []) old (All-cons (λ (p : Pair). p.hand ≡ v.number) (record { job = n; hand = v.number }) [] refl (All-nil (λ (p : Pair). p.hand ≡ v.number)))

pub below_after : (v : HandView) (n : ℕ) → n < v.count → All (λ m. m < v.count) (jobs v) → All (λ m. m < v.count) (jobs (with_job v n))
below_after v n low old = subst (λ (l : List ℕ). All (λ m. m < v.count) l) (sym (jobs-with_job v n)) (All-append (λ m. m < v.count) (jobs v) (n ∷ []) old (All-cons (λ m. m < v.count) n [] low (All-nil (λ m. m < v.count))))
