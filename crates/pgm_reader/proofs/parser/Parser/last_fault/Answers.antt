use Rattle.pgm_reader.proofs.Endings.{last-none, last-answer}
use Rattle.pgm_reader.proofs.parser.Parser.last_fault.Goals as goal

pub returns-in_default : goal.returns-in_default
returns-in_default c = rw (c.truncated.ensures, ← c.self.view_is) (last-none _ _ _ _ (rw (← c.self.view_is) at c.requires) c.in_default.ensures)

pub returns-in-Width : goal.returns-in-Width
returns-in-Width c =
    rw (← c.self.view_is) (last-answer _ c.args.end _ _ c.in-Some.field-0 c.width.result _ (rw (c.in-Width.is, ← c.self.view_is) at c.requires) c.in-Some.ensures.1 c.width.ensures.value c.last_error.ensures)

pub returns-in-Height : goal.returns-in-Height
returns-in-Height c =
    rw (← c.self.view_is) (last-answer _ c.args.end _ _ c.in-Some.field-0 c.height.result _ (rw (c.in-Height.is, ← c.self.view_is) at c.requires) c.in-Some.ensures.1 c.height.ensures.value c.last_error-in-Height.ensures)

pub returns-in-Greatest : goal.returns-in-Greatest
returns-in-Greatest c =
    rw (← c.self.view_is) (last-answer _ c.args.end _ _ c.in-Some.field-0 c.greatest.result _ (rw (c.in-Greatest.is, ← c.self.view_is) at c.requires) c.in-Some.ensures.1 c.greatest.ensures.value c.last_error-in-Greatest.ensures)
