use Rattle.std.proofs.Common.{arith}
use Rattle.hg_batch.proofs.PieceLemmas.{vertices_more}
use Rattle.hg_batch.proofs.cutting.vertex_count.Goals as goal

pub loop-piece-preserved : goal.loop-piece-preserved
loop-piece-preserved c =
    let more = vertices_more c.args.pieces.now c.loop-piece.piece-index c.piece-item.result c.loop-piece-test.true c.piece-item.is in
    record {
      count = omega (arith, more, c.loop-piece.invariant.count, c.vertices_of-count.ensures.count);
      few = omega (arith, c.loop-piece.invariant.few, c.vertices_of-count.ensures.few);
    }
