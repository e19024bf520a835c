use Rattle.std.proofs.Common.{sym, inl, inr}
use Rattle.pgm_reader.proofs.BytesRead.{not-settled, form-not-settled, behind-header}
use Rattle.pgm_reader.proofs.parser.Parser.is_settled.Goals as goal

pub returns-in-Form : goal.returns-in-Form
returns-in-Form c = λ place. elim c.in-Form.is [
  | inl e ↦ rw (← c.self.view_is) (sym (form-not-settled _ place e))
  | inr e ↦ rw (← c.self.view_is) (sym (not-settled _ _ _ place e.2))
]

pub returns-in-Samples : goal.returns-in-Samples
returns-in-Samples c = λ place. rw (← c.self.view_is) (sym (behind-header _ place c.in-Samples.is))
