use Rattle.std.proofs.Common.{◌≡◌, arith}
use Rattle.pgm_reader.proofs.BytesRead.{form-begins, form-ends}
use Rattle.pgm_reader.proofs.parser.Parser.read_form.Goals as goal

pub returns-then-place-eq1 : goal.returns-then-place-eq1
returns-then-place-eq1 c = λ b. rw (← c.self.view_is) (form-ends _ c.args.place b (rw (← c.self.view_is) at c.requires.stage) c.if-place-eq1.true)

pub returns-else-place-eq1 : goal.returns-else-place-eq1
returns-else-place-eq1 c =
    let first : c.args.place ≡ 0 = omega (arith, c.requires.within, c.if-place-eq1.false) in
    λ b. form-begins _ c.args.place b c.requires.stage first
