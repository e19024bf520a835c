use Rattle.std.proofs.Common.{◌≡◌, ◌≤◌, ◌++◌}
use Rattle.job_shift.proofs.Fresh.{first_hand, hands_down}
use Rattle.job_shift.proofs.starting.dealt.Given as goal

abbrev pub invariant-loop-share : goal.invariant-loop-share
invariant-loop-share l = record {
  some : 1 ≤ l.share;
  first : l.first ≡ first_hand l.shift l.share;
  hands : l.hands.items ++ hands_down l.shift l.share ≡ hands_down l.shift l.shift.workers;
}

abbrev pub decreases-loop-share : goal.decreases-loop-share
decreases-loop-share l = l.share
