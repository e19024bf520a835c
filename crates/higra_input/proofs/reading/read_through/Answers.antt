use Rattle.std.proofs.Common.{sym, subst}
use Rattle.std.proofs.lemmas.Result.{err_from_is_err_and}
use Rattle.higra_input.proofs.ReadingLemmas.{EndsReading-refused}
use Rattle.higra_input.specs.Reading.{EndsReading, told}
use Rattle.higra_input.proofs.reading.read_through.Goals as goal

pub returns-in_err-finish-in-Ok-clause-ends : goal.returns-in_err-finish-in-Ok-clause-ends
returns-in_err-finish-in-Ok-clause-ends g c =
    let old = told (g.S.Source.left c.args.source.now) (g.S.Source.faults c.args.source.now) in
    let new = told (g.S.Source.left c.feed_whole.new.source) (g.S.Source.faults c.feed_whole.new.source) in
    let p = err_from_is_err_and c.from_residual.result c.from_residual.ensures.1 in
    subst (EndsReading old new) (sym p.1) (EndsReading-refused old new c.in-Ok.decoder c.in_err-finish-in-Ok.field-0.0 p.0 c.in-Ok.ensures.ends c.in_err-finish-in-Ok.ensures p.2)
