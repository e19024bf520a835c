use Rattle.std.proofs.Common.{◌-◌, ◌≤◌, length, get_or, arith, rules}
use Rattle.std.specs.Prelude.{decimal}
use Rattle.std.proofs.lemmas.Fmt.{length-decimal-le}
use Rattle.report_lines.proofs.LineForms.{number_before, last_byte}
use Rattle.report_lines.proofs.writer.fill.Goals as goal

pub loop-left-init : goal.loop-left-init
loop-left-init c = record {
  within = omega arith;
  room = omega arith;
  start = omega arith;
  written = last_byte c.args.line.now c.args.numbers.now c.told-line;
}

pub write_digits-start-requires : goal.write_digits-start-requires
write_digits-start-requires c = search (rules, length-decimal-le 20)

pub overflow_sub-start-in-loop-left : goal.overflow_sub-start-in-loop-left
overflow_sub-start-in-loop-left c =
    let short : length (decimal (get_or c.args.numbers.now (c.loop-left.left - 1) 0)) ≤ 20 = search (rules, length-decimal-le 20) in
    omega arith

pub loop-left-preserved : goal.loop-left-preserved
loop-left-preserved c =
    let short : length (decimal (get_or c.args.numbers.now (c.loop-left.left - 1) 0)) ≤ 20 = search (rules, length-decimal-le 20) in
    record {
      within = omega arith;
      room = omega arith;
      start = omega arith;
      written =
          number_before c.loop-left.line c.write_digits-start.new.buf c.args.numbers.now c.loop-left.start c.write_digits-start.result c.loop-left.left _ _ (omega arith) (omega arith)
          c.loop-left.invariant.within (omega arith) c.loop-left.invariant.written c.write_digits-start.ensures.written;
    }
