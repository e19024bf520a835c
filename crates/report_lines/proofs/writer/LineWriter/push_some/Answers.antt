use Rattle.report_lines.proofs.writer.LineWriter.push_some.Goals as goal
use Rattle.std.proofs.Common.{◌∙◌, ap, List, ℕ, ◌++◌}
use Rattle.report_lines.proofs.LineForms.{one_line_more}

pub loop-i-preserved : goal.loop-i-preserved
loop-i-preserved g c =
    c.in_ok-write.ensures
    ∙ ap (λ (text : List ℕ). text ++ g.L.Lines.line c.args.lines.now c.loop-i.i) c.loop-i.invariant
    ∙ one_line_more (g.L.Lines.line c.args.lines.now) c.args.self.now c.args.from c.loop-i.i c.loop-i.auto.i
