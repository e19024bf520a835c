use Rattle.std.proofs.Common.{sym, refl, ◌∙◌, ◌<◌, length, arith}
use Rattle.pgm_reader.proofs.Forms.{form-alone, form-more, form-other}
use Rattle.pgm_reader.proofs.form.is_picture.Goals as goal

pub returns-then-first-eq2 : goal.returns-then-first-eq2
returns-then-first-eq2 c =
    rw (form-alone c.args.first.now (sym c.starts_with.ensures.value ∙ c.if-starts_with.true) c.if-first-eq2.true, c.if-first-eq2.true) refl

pub returns-else-first-eq2 : goal.returns-else-first-eq2
returns-else-first-eq2 c =
    let more : 2 < length c.args.first.now = omega (arith, c.starts_with.ensures.bound c.if-starts_with.true, c.if-first-eq2.false) in
    c.ends_token.ensures ∙ sym (form-more c.args.first.now (sym c.starts_with.ensures.value ∙ c.if-starts_with.true) more)

pub returns-else-starts_with : goal.returns-else-starts_with
returns-else-starts_with c = c.if-starts_with.false ∙ sym (form-other c.args.first.now (sym c.starts_with.ensures.value ∙ c.if-starts_with.false))
