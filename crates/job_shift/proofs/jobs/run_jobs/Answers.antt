use Rattle.std.proofs.Common.{◌≡◌, ◌<◌, ℕ, List, length, ap, sym, subst, ◌∙◌, arith}
use Rattle.std.specs.Prelude.{IfOk, slice_index}
use Rattle.std.specs.List.{concat}
use Rattle.job_shift.specs.Doing.{HaveDone}
use Rattle.job_shift.specs.Placing.{bytes_of_texts}
use Rattle.job_shift.proofs.Places.{Texts, all_texts, done_below}
use Rattle.job_shift.proofs.jobs.run_jobs.Goals as goal

pub placed-requires : goal.placed-requires
placed-requires g c =
    let have = c.in_ok-hands.ensures.crew (g.J.Job.texts c.args.jobs.now) c.in_ok-shift.shift c.put_to_work.ensures.0 in
    done_below (g.J.Job.texts c.args.jobs.now) c.in_ok-hands.done.items c.count-count.result c.count-count.ensures have.texts

pub finish-requires-clause-all : goal.finish-requires-clause-all
finish-requires-clause-all g c =
    let have = c.in_ok-hands.ensures.crew (g.J.Job.texts c.args.jobs.now) c.in_ok-shift.shift c.put_to_work.ensures.0 in
    record { count = c.in_ok-hands.ensures.count ∙ c.put_to_work.ensures.1 ∙ c.in_ok-crew.ensures.count ∙ c.in_ok-shift.ensures.hands.count; each = have.each }

pub finish-requires-clause-missed : goal.finish-requires-clause-missed
finish-requires-clause-missed g c =
    let have = c.in_ok-hands.ensures.crew (g.J.Job.texts c.args.jobs.now) c.in_ok-shift.shift c.put_to_work.ensures.0 in have.missed

pub returns : goal.returns
returns g c =
    let have = c.in_ok-hands.ensures.crew (g.J.Job.texts c.args.jobs.now) c.in_ok-shift.shift c.put_to_work.ensures.0 in
    let whole : bytes_of_texts c.in_ok-texts.texts.items ≡ g.J.Job.texts c.args.jobs.now =
    all_texts (g.J.Job.texts c.args.jobs.now) c.in_ok-shift.shift c.in_ok-hands.hands.items c.in_ok-hands.done.items c.in_ok-texts.texts.items (λ i. slice_index c.finish.result.items i) have
    (c.in_ok-texts.ensures.count ∙ c.count-count.ensures) (λ j h. c.in_ok-texts.ensures.placed (g.J.Job.texts c.args.jobs.now) j have.texts h) (λ i h. c.finish.ensures.each i (let k = c.in_ok-shift.ensures.count in let m = c.count-count.ensures in omega arith)) in
    subst (λ (l : List (List ℕ)). IfOk c.end_to_end.result (λ bytes. bytes.items ≡ concat l)) (ap (λ (l : Texts). bytes_of_texts l) c.deref.ensures.value ∙ whole) c.end_to_end.ensures
