use Rattle.std.proofs.Common.{ℕ, List, Err, subst, sym, ◌∙◌}
use Rattle.std.specs.Prelude.{Result}
use Rattle.std.proofs.lemmas.Result.{err_from_is_err_and}
use Rattle.merge_board.specs.Seats.{ReceiptState}
use Rattle.higra_report.proofs.PlanningLemmas.{pixels_in}
use Rattle.higra_report.specs.Reports.{IsReportIn}
use Rattle.higra_input.specs.declared.input.Input.TheVariants.{Picture}
use Rattle.higra_words.specs.declared.request.Form.TheVariants.{Text}
use Rattle.higra_report.specs.declared.fault.ReportFault.{ReportFault}
use Rattle.higra_report.proofs.components.components_of.Goals as goal

pub weighed-requires : goal.weighed-requires
weighed-requires g c = c.in_ok-values.ensures.one_each ∙ pixels_in c.args.picture.now c.in_ok-graph.graph c.in_ok-graph.ensures

pub components_text-requires-clause-values : goal.components_text-requires-clause-values
components_text-requires-clause-values g c κs within = c.in_ok-values.ensures.one_each ∙ pixels_in c.args.picture.now c.in_ok-graph.graph c.in_ok-graph.ensures

pub returns-in_err-pieces-clause-text : goal.returns-in_err-pieces-clause-text
returns-in_err-pieces-clause-text g c =
    let p = err_from_is_err_and c.from_residual-in_err-pieces.result c.from_residual-in_err-pieces.ensures.1 in
    subst (λ (r : Result (List ℕ × ReceiptState) ReportFault). IsReportIn Text c.args.request.now.tile c.args.request.now.report (Picture c.args.picture.now) r) (sym p.1)
    (subst (λ (f : ReportFault). IsReportIn Text c.args.request.now.tile c.args.request.now.report (Picture c.args.picture.now) (Err f)) (sym p.2) tt)
