use Rattle.job_shift.specs.Hands.{AreAllHands}
use Rattle.region_tests.proofs.job_shift_tests.by_turns.Given as goal

abbrev pub invariant-loop-place : goal.invariant-loop-place
invariant-loop-place g l = AreAllHands l.hands.items l.shift
