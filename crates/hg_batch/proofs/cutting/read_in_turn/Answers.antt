use Rattle.std.proofs.Common.{◌+◌, sym, arith}
use Rattle.std.proofs.lemmas.Grind.{common_steps}
use Rattle.hg_batch.proofs.PieceLemmas.{read_last, read_more, rest_shorter}
use Rattle.hg_batch.proofs.cutting.read_in_turn.Goals as goal

pub loop-end-preserved : goal.loop-end-preserved
loop-end-preserved c = record {
  read = read_more _ _ _ _ _ _ (sym c.in-Some.ensures.first) (grind (arith, common_steps)) c.in_ok-push_piece.ensures c.loop-end.invariant.read;
  short = omega (arith, rest_shorter (c.in-Some.end + 1) c.loop-end.rest.now, c.loop-end.invariant.short);
}

pub returns : goal.returns
returns c = read_last _ _ _ _ (sym c.in_default.ensures.first) c.in_ok-push_piece-2.ensures c.loop-end.invariant.read
