use Rattle.std.proofs.Common.{◌≤◌, sym, arith}
use Rattle.std.proofs.lemmas.List.{take_more}
use Rattle.input_tokens.proofs.QuietRuns.{digit-more, value-more}
use Rattle.input_tokens.proofs.runs.read_digits.Goals as goal

pub loop-count-preserved : goal.loop-count-preserved
loop-count-preserved c =
    let small : c.from.result ≤ 9 = grind (arith, c.from.ensures, c.if-is_ascii_digit.ensures) in
    record {
      within = omega (arith, c.loop-count-test.true);
      valid = (omega (arith, c.if-all-lt10.true), value-more c.loop-count.all c.loop-count.sum c.from.result c.loop-count.invariant.valid.1 small);
      goes =
          rw (take_more c.args.piece.now c.loop-count.count 0 c.loop-count-test.true, c.from.ensures)
          (digit-more _ c.args.at c.loop-count.all c.loop-count.sum _ _ (sym c.if-is_ascii_digit.ensures.value) c.loop-count.invariant.goes);
    }
