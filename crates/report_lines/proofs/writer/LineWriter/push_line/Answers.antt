use Rattle.std.proofs.Common.{◌∙◌, ap, List, ℕ, ◌++◌}
use Rattle.std.proofs.lemmas.Result.{on_ok_weaker}
use Rattle.report_lines.proofs.LineForms.{line_from}
use Rattle.report_lines.proofs.writer.LineWriter.push_line.Goals as goal

pub returns-clause-all : goal.returns-clause-all
returns-clause-all c =
    let made = line_from c.fill-start.new.line c.args.numbers.now c.fill-start.result c.requires.some c.fill-start.ensures.written in
    rw (← c.self.view_is) (on_ok_weaker c.append.result (λ e. e ∙ ap (λ (bytes : List ℕ). c.self.inside.text.items ++ bytes) made) c.append.ensures.all)
