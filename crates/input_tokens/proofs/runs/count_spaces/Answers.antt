use Rattle.std.proofs.Common.{sym, arith}
use Rattle.std.proofs.lemmas.List.{take_more}
use Rattle.input_tokens.proofs.QuietRuns.{space-more}
use Rattle.input_tokens.proofs.runs.count_spaces.Goals as goal

pub loop-count-preserved : goal.loop-count-preserved
loop-count-preserved c = record {
  within = omega (arith, c.loop-count-test.true);
  goes =
      rw (take_more c.args.piece.now c.loop-count.count 0 c.loop-count-test.true)
      (space-more _ _ (sym c.if-is_space.ensures) c.loop-count.invariant.goes);
}
