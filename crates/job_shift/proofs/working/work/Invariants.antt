use Rattle.std.proofs.Common.{◌≡◌, ℕ, ◌+◌, ◌-◌, false, length}
use Rattle.job_shift.specs.Times.{times}
use Rattle.job_shift.specs.Hands.{IsHandOf, handed}
use Rattle.job_shift.specs.Doing.{AreTexts, done_jobs}
use Rattle.job_shift.proofs.working.work.Given as goal

abbrev pub invariant-loop-job : goal.invariant-loop-job
invariant-loop-job g l = record {
  hand : IsHandOf l.hand l.shift;
  fresh : l.hand.view.missed ≡ false;
  texts : AreTexts (g.J.Job.texts l.jobs) l.done.items;
  jobs : (j : ℕ) → times j (handed l.hand) ≡ times j (handed l.initial.hand) + times j (done_jobs l.done.items);
}

abbrev pub decreases-loop-job : goal.decreases-loop-job
decreases-loop-job g l = l.hand.view.count - length l.hand.view.pairs
