use Rattle.std.proofs.Common.{◌∙◌, ap, List, ℕ, ◌++◌}
use Rattle.std.proofs.lemmas.Result.{on_ok_weaker, on_err_weaker}
use Rattle.report_lines.proofs.LineForms.{headed_text, word_appended}
use Rattle.report_lines.proofs.writer.LineWriter.push_headed_line.Goals as goal

pub returns-clause-all : goal.returns-clause-all
returns-clause-all c =
    rw (← c.self.view_is)
    (on_ok_weaker c.append.result
    (headed_text c.self.inside.text.items c.extend_from_slice.new.self.items c.append.new.text.items c.args.word.now c.args.numbers.now c.fill-start.new.line c.fill-start.result c.requires.some
    (c.in_ok-extend_from_slice.ensures.items ∙ ap (λ (word : List ℕ). c.self.inside.text.items ++ word) c.as_bytes.ensures.value) c.fill-start.ensures.written)
    c.append.ensures.all)

pub returns-clause-prefix : goal.returns-clause-prefix
returns-clause-prefix c =
    rw (← c.self.view_is)
    (on_err_weaker c.append.result
    (λ same. word_appended c.self.inside.text.items c.append.new.text.items c.args.word.now c.args.numbers.now
    (same ∙ c.in_ok-extend_from_slice.ensures.items ∙ ap (λ (word : List ℕ). c.self.inside.text.items ++ word) c.as_bytes.ensures.value))
    c.append.ensures.stays)
