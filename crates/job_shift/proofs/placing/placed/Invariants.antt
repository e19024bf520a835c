use Rattle.std.proofs.Common.{◌≡◌, ◌<◌, length, All, vec_len}
use Rattle.job_shift.proofs.Places.{IsPlaced}
use Rattle.job_shift.proofs.placing.placed.Given as goal

abbrev pub invariant-loop-one : goal.invariant-loop-one
invariant-loop-one l = record {
  count : length l.places.items ≡ l.count;
  below : All (λ d. d.job < l.count) l.done.items;
  placed : IsPlaced l.fn.done.items l.done.items l.places.items;
}

abbrev pub decreases-loop-one : goal.decreases-loop-one
decreases-loop-one l = vec_len l.done
