use Rattle.std.proofs.Common.{◌≡◌, ◌*◌, ◌<◌, ◌≤◌, length, drop}
use Rattle.report_lines.specs.Lines.{spaced}
use Rattle.report_lines.proofs.writer.fill.Given as goal

-- the last numbers are written, and there is room for the others
abbrev pub invariant-loop-left : goal.invariant-loop-left
invariant-loop-left l = record {
  within : l.left ≤ length l.numbers;
  room : l.left * 21 ≤ l.start;
  start : l.start < 127;
  written : drop l.start l.line ≡ spaced (drop l.left l.numbers);
}

abbrev pub decreases-loop-left : goal.decreases-loop-left
decreases-loop-left l = l.left
