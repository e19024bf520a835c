-- Which contours are drawn of an input, and why there are none.
use Rattle.std.specs.Prelude.{◌≡◌, ℕ, List, length, Option, Some, None, Result, Ok, Err, Vec}
use Rattle.std.specs.declared.alloc.Global.{Global}
use Rattle.contour_map.specs.Drawn.{AreContoursIn}
use Rattle.hg_base.specs.declared.kind.Kind.{Kind}
use Rattle.hg_base.specs.declared.fault.InputFault.{InputFault}
use Rattle.hg_base.specs.declared.fault.FaultKind.TheVariants.{NotAPicture}
use Rattle.merge_board.specs.Seats.{ReceiptState}
use Rattle.tile_plan.specs.Plan.{tile_count}
use Rattle.higra_input.specs.Inputs.{input_graph}
use Rattle.higra_report.specs.Reports.{cut_tree, input_plan, tile_fault}
use Rattle.higra_input.specs.declared.input.Input.{Input}
use Rattle.higra_input.specs.declared.input.Input.TheVariants.{Edges, Picture}
use Rattle.higra_report.specs.declared.fault.ReportFault.{ReportFault}
use Rattle.higra_report.specs.declared.fault.ReportFault.TheVariants as faults
use Rattle.contour_run.specs.declared.request.ContourRequest.{ContourRequest}

-- The bytes are the contours of an input by a kind: those of a picture in the tree of its graph, which is the graph's own
-- or its hierarchical watershed. An edge list has none.
abbrev pub AreContoursOf : Option Kind → Input → List ℕ → Type 0
AreContoursOf kind (Edges graph) bytes = ⊥
AreContoursOf kind (Picture raster) bytes = AreContoursIn raster (cut_tree kind (input_graph (Picture raster))) bytes

-- why no contours are drawn of an input in tiles of this size, if none are: it is no picture, or it has too many tiles
abbrev pub contours_refusal : ℕ → Input → Option InputFault
contours_refusal tile (Edges graph) = Some (record { kind = NotAPicture; at = 0; value = 0 })
contours_refusal tile (Picture raster) = tile_fault (tile_count (input_plan tile (Picture raster)))

-- the receipt of a request's contours of an input: how many tiles its plan has, how many workers are asked for, and how
-- many edges its graph has
abbrev pub contours_receipt : ContourRequest → Input → ReceiptState
contours_receipt request input = record { tiles = tile_count (input_plan request.tile input); workers = request.workers; edges = length (input_graph input).edges }

-- what drawing contours answers: them, or why there are none, or that memory ran out
abbrev pub AreDrawn : ContourRequest → Input → Result (Vec ℕ Global × ReceiptState) ReportFault → Type 0
AreDrawn request input (Ok drawn) = (contours_refusal request.tile input ≡ None) × AreContoursOf request.kind input drawn.0.items
AreDrawn request input (Err (faults.Input fault)) = contours_refusal request.tile input ≡ Some fault
AreDrawn request input (Err faults.OutOfMemory) = Unit {0}
