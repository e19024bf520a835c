use Rattle.std.proofs.Common.{sym, ◌∙◌}
use Rattle.std.proofs.lemmas.Result.{err_from_is_err_and}
use Rattle.contour_run.proofs.CommandLemmas.{asked_none, asked_some, lined}
use Rattle.contour_run.proofs.request.contour_request_of.Goals as goal

pub returns-in_err-matches-clause-usage : goal.returns-in_err-matches-clause-usage
returns-in_err-matches-clause-usage c is =
    let p = err_from_is_err_and c.from_residual-in_err-matches.result c.from_residual-in_err-matches.ensures.1 in
    asked_none c.args.words.now _ (lined _ _ _ _ c.deref.ensures.value c.in_ok-line.ensures) (c.in_err-matches.ensures.usage cc)

pub returns-in-Some-clause-request : goal.returns-in-Some-clause-request
returns-in-Some-clause-request c =
    asked_some c.args.words.now _ _ (lined _ _ _ _ c.deref.ensures.value c.in_ok-line.ensures) c.in_ok-matches.ensures.found ∙ sym c.in-Some.ensures.request

pub returns-clause-usage : goal.returns-clause-usage
returns-clause-usage c is =
    asked_some c.args.words.now _ _ (lined _ _ _ _ c.deref.ensures.value c.in_ok-line.ensures) c.in_ok-matches.ensures.found ∙ sym c.in-None.ensures.request
