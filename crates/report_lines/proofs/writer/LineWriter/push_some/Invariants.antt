use Rattle.std.proofs.Common.{◌≡◌, ◌-◌, ◌++◌}
use Rattle.report_lines.specs.Lines.{lines_from}
use Rattle.report_lines.proofs.writer.LineWriter.push_some.Given as goal

-- the lines so far are written
abbrev pub invariant-loop-i : goal.invariant-loop-i
invariant-loop-i g l = l.self ≡ l.fn.self ++ lines_from (g.L.Lines.line l.lines) l.from (l.i - l.from)
