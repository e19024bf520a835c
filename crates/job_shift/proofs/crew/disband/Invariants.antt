use Rattle.std.proofs.Common.{◌≡◌, ◌+◌, length, vec_len}
use Rattle.job_shift.proofs.Doing.{IsLeft}
use Rattle.job_shift.proofs.crew.disband.Given as goal

abbrev pub invariant-loop-worker : goal.invariant-loop-worker
invariant-loop-worker l = record {
  count : length l.hands.items + length l.crew.items ≡ length l.fn.crew.items;
  left : IsLeft l.fn.crew.items l.crew.items l.hands.items l.all.items;
}

abbrev pub decreases-loop-worker : goal.decreases-loop-worker
decreases-loop-worker l = vec_len l.crew
