use Rattle.std.proofs.Common.{sym, arith}
use Rattle.std.proofs.lemmas.Grind.{common_steps}
use Rattle.hg_batch.proofs.PieceLemmas.{count_last, count_more}
use Rattle.hg_batch.proofs.cutting.piece_count.Goals as goal

pub loop-end-preserved : goal.loop-end-preserved
loop-end-preserved c =
    let more = count_more c.loop-end.rest.now c.in-Some.end (sym c.in-Some.ensures.first) in
    record {
      count = omega (arith, more, c.loop-end.invariant.count);
      few = grind (arith, common_steps);
    }

pub returns : goal.returns
returns c = let last = count_last c.loop-end.rest.now (sym c.in_default.ensures.first) in omega (arith, last, c.loop-end.invariant.count)
