use Rattle.std.proofs.Common.{◌≡◌, ◌+◌, ◌≤◌, length}
use Rattle.hg_batch.specs.Pieces.{pieces}
use Rattle.hg_batch.proofs.cutting.piece_count.Given as goal

abbrev pub invariant-loop-end : goal.invariant-loop-end
invariant-loop-end l = record {
  count : l.count + length (pieces l.rest) ≡ length (pieces l.bytes) + 1;
  few : l.count + length l.rest ≤ length l.bytes + 1;
}

abbrev pub decreases-loop-end : goal.decreases-loop-end
decreases-loop-end l = length l.rest
