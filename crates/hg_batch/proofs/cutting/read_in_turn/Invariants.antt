use Rattle.std.proofs.Common.{◌≡◌, ◌≤◌, ◌++◌, length}
use Rattle.hg_batch.specs.Pieces.{readings}
use Rattle.hg_batch.specs.Cutting.{values}
use Rattle.hg_batch.proofs.cutting.read_in_turn.Given as goal

abbrev pub invariant-loop-end : goal.invariant-loop-end
invariant-loop-end l = record {
  read : values l.read.items ++ readings l.rest ≡ readings l.bytes;
  short : length l.rest ≤ 134217728;
}

abbrev pub decreases-loop-end : goal.decreases-loop-end
decreases-loop-end l = length l.rest
