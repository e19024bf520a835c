use Rattle.std.proofs.Common.{rules, ◌≡◌, ◌∷◌, ◌++◌, [], refl, arith}
use Rattle.job_shift.proofs.Doing.{got_times, got_fresh, got_closer, done_more, texts_more}
use Rattle.job_shift.proofs.working.work.Goals as goal

pub loop-job-smaller : goal.loop-job-smaller
loop-job-smaller g c = got_closer c.loop-job.hand.view c.next.new.hand.view c.in-Some.job c.in-Some.ensures.some

pub loop-job-preserved : goal.loop-job-preserved
loop-job-preserved g c =
    let more : c.push.new.self.items ≡ c.loop-job.done.items ++ record { job = c.in-Some.job; text = c.in_ok-text.text } ∷ [] = search rules in
    record {
      hand = c.in-Some.ensures.hand;
      fresh = got_fresh c.loop-job.hand.view c.next.new.hand.view c.in-Some.job c.in-Some.ensures.some c.loop-job.invariant.fresh;
      texts = texts_more (g.J.Job.texts c.args.jobs.now) c.loop-job.done.items c.push.new.self.items (record { job = c.in-Some.job; text = c.in_ok-text.text }) more c.in_ok-text.ensures c.loop-job.invariant.texts;
      jobs = λ j. (let a = got_times c.loop-job.hand.view c.next.new.hand.view c.in-Some.job j c.in-Some.ensures.some in
          let b = done_more c.loop-job.done.items c.push.new.self.items (record { job = c.in-Some.job; text = c.in_ok-text.text }) c.in-Some.job j more refl in
          let i = c.loop-job.invariant.jobs j in omega arith);
    }
