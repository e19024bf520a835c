use Rattle.std.proofs.Common.{◌≡◌, ℕ, Err, subst, sym}
use Rattle.std.specs.Prelude.{List, Result, Ok}
use Rattle.std.proofs.lemmas.Result.{err_from_is_err_and}
use Rattle.hg_base.specs.Graph.{WeightedGraph}
use Rattle.merge_board.specs.Seats.{ReceiptState}
use Rattle.higra_report.proofs.DrawingLemmas.{drawn_alone, drawn_fault, drawn_report}
use Rattle.higra_report.proofs.HierarchyLemmas.{is_hierarchy}
use Rattle.higra_report.proofs.PlanningLemmas.{edges_in, pixels_in, receipt_squares}
use Rattle.higra_report.specs.Reports.{IsReportIn}
use Rattle.higra_report.specs.Theorems.{IsHierarchy}
use Rattle.higra_input.specs.declared.input.Input.TheVariants.{Picture}
use Rattle.higra_words.specs.declared.request.Form.TheVariants.{Pgm}
use Rattle.higra_report.specs.declared.fault.ReportFault.{ReportFault}
use Rattle.higra_report.proofs.drawing.drawing.Goals as goal

pub pixels_hierarchy-requires-clause-pixels : goal.pixels_hierarchy-requires-clause-pixels
pixels_hierarchy-requires-clause-pixels g c κs within = pixels_in c.args.picture.now c.in_ok-graph.graph c.in_ok-graph.ensures

pub returns-in_err-pieces-clause-picture : goal.returns-in_err-pieces-clause-picture
returns-in_err-pieces-clause-picture g c =
    let p = err_from_is_err_and c.from_residual-in_err-pieces.result c.from_residual-in_err-pieces.ensures.1 in
    let same : c.in_err-pieces.field-0.0 ≡ p.0 = cc in
    subst (λ (r : Result (List ℕ × ReceiptState) ReportFault). IsReportIn Pgm c.args.request.now.tile c.args.request.now.report (Picture c.args.picture.now) r) (sym p.1)
    (subst (λ (f : ReportFault). IsReportIn Pgm c.args.request.now.tile c.args.request.now.report (Picture c.args.picture.now) (Err f)) same
    (drawn_fault c.args.picture.now c.args.request.now.tile c.args.request.now.report c.in_ok-graph.graph c.in_err-pieces.field-0.0 c.in_ok-order.ensures.few c.in_ok-graph.ensures c.in_err-pieces.ensures))

pub returns-clause-picture : goal.returns-clause-picture
returns-clause-picture g c =
    drawn_report c.args.picture.now c.args.request.now.tile c.args.request.now.report c.in_ok-graph.graph (Ok c.in_ok-pieces.pieces) c.in_ok-order.ensures.few c.in_ok-graph.ensures c.in_ok-pieces.ensures

pub returns-clause-receipt : goal.returns-clause-receipt
returns-clause-receipt g c =
    receipt_squares c.args.request.now c.args.picture.now c.in_ok-graph.graph _ c.in_ok-order.ensures.own.receipt (edges_in c.args.picture.now c.in_ok-graph.graph c.in_ok-graph.ensures)

pub returns-clause-hierarchy : goal.returns-clause-hierarchy
returns-clause-hierarchy g c = subst (λ (h : WeightedGraph). IsHierarchy h) c.in_ok-graph.ensures (is_hierarchy _ _ c.in_ok-order.ensures.own.tree)

pub returns-clause-components : goal.returns-clause-components
returns-clause-components g c = drawn_alone c.args.request.now.report (Picture c.args.picture.now) c.requires.drawn
