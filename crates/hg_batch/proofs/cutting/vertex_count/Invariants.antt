use Rattle.std.proofs.Common.{◌≡◌, ◌*◌, ◌≤◌, take}
use Rattle.hg_batch.specs.Pieces.{all_vertices}
use Rattle.hg_batch.specs.Cutting.{values}
use Rattle.hg_batch.proofs.cutting.vertex_count.Given as goal

abbrev pub invariant-loop-piece : goal.invariant-loop-piece
invariant-loop-piece l = record {
  count : l.count ≡ all_vertices (values (take l.piece-index l.pieces));
  few : l.count ≤ l.piece-index * 1048576;
}
