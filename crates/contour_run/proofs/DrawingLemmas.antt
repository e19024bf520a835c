-- The receipt of drawn contours.
use Rattle.std.proofs.Common.{◌≡◌, None}
use Rattle.graph_hierarchy.specs.Tilings.{receipt_in}
use Rattle.graph_hierarchy.specs.declared.tiling.Tiling.TheVariants.{Squares}
use Rattle.hg_base.specs.Graph.{WeightedGraph}
use Rattle.merge_board.specs.Seats.{ReceiptState}
use Rattle.pgm_reader.specs.Raster.{Raster}
use Rattle.higra_report.proofs.PlanningLemmas.{edges_in, receipt_squares}
use Rattle.higra_input.specs.Inputs.{input_graph}
use Rattle.higra_input.specs.declared.input.Input.TheVariants.{Picture}
use Rattle.higra_words.specs.declared.request.Form.TheVariants.{Text}
use Rattle.higra_words.specs.declared.request.Report.TheVariants.{Tree}
use Rattle.contour_run.specs.Drawing.{contours_receipt}
use Rattle.contour_run.specs.declared.request.ContourRequest.{ContourRequest}

-- the receipt of a picture's graph is that of the request
pub receipt_drawn : (request : ContourRequest) (r : Raster) (g : WeightedGraph) (receipt : ReceiptState) → receipt ≡ receipt_in g (Squares r.width r.height request.tile) request.workers → g ≡ input_graph (Picture r)
    → receipt ≡ contours_receipt request (Picture r)
receipt_drawn request r g receipt is same =
    receipt_squares (record { report = Tree; tile = request.tile; workers = request.workers; form = Text; made = None }) r g receipt is (edges_in r g same)
