use Rattle.std.proofs.Common.{◌-◌}
use Rattle.border_climb.proofs.Ways.{IsClimbing}
use Rattle.border_climb.proofs.climbing.climb.Given as goal

abbrev pub invariant-loop-next : goal.invariant-loop-next
invariant-loop-next l = IsClimbing l.initial.region l.region l.initial.here.met l.here l.r l.waiting

abbrev pub decreases-loop-next : goal.decreases-loop-next
decreases-loop-next l = l.r - l.here.met.rank
