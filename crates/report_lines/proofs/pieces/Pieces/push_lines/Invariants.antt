use Rattle.std.proofs.Common.{◌≡◌, ◌++◌, length}
use Rattle.report_lines.specs.Lines.{piece_start, lines_from}
use Rattle.report_lines.proofs.pieces.Pieces.push_lines.Given as goal

-- the lines of the pieces so far are there
abbrev pub invariant-loop-piece : goal.invariant-loop-piece
invariant-loop-piece g l = l.self ≡ l.fn.self ++ lines_from (g.L.Lines.line l.lines) 0 (piece_start l.count (length l.yielded))
