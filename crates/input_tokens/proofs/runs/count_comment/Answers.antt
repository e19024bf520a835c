use Rattle.std.proofs.Common.{sym, ◌∙◌, arith}
use Rattle.std.proofs.lemmas.List.{take_more}
use Rattle.input_tokens.proofs.QuietRuns.{comment-byte-more}
use Rattle.input_tokens.proofs.runs.count_comment.Goals as goal

pub loop-count-preserved : goal.loop-count-preserved
loop-count-preserved c = record {
  within = omega (arith, c.loop-count-test.true);
  goes =
      rw (take_more c.args.piece.now c.loop-count.count 0 c.loop-count-test.true)
      (comment-byte-more _ _ (sym c.is_line_end.ensures ∙ c.if-not-is_line_end.true) c.loop-count.invariant.goes);
}
