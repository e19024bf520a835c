use Rattle.std.proofs.Common.{◌≡◌, ◌+◌, All, length, vec_len}
use Rattle.job_shift.specs.Hands.{IsFresh, IsHandOf}
use Rattle.job_shift.specs.Doing.{IsReady}
use Rattle.job_shift.proofs.crew.crew_of.Given as goal

abbrev pub invariant-loop-hand : goal.invariant-loop-hand
invariant-loop-hand l = record {
  count : length l.crew.items + length l.hands.items ≡ length l.fn.hands.items;
  each : All (λ hand. IsHandOf hand l.shift) l.hands.items;
  fresh : All IsFresh l.hands.items;
  ready : All (IsReady l.shift) l.crew.items;
}

abbrev pub decreases-loop-hand : goal.decreases-loop-hand
decreases-loop-hand l = vec_len l.hands
