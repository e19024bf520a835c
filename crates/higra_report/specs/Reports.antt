-- Which bytes a report about an input has.
use Rattle.std.specs.Prelude.{◌≡◌, ℕ, nat_lt, if◌then◌else◌, Bool, true, List, [], length, Option, Some, None, is_some, Result, Ok, Err}
use Rattle.attributes.specs.Attributes.{attributes_of}
use Rattle.attributes.specs.Report.{attributes_report}
use Rattle.component_tree.specs.Components.{ComponentLists}
use Rattle.component_tree.specs.MinTree.{component_tree_of}
use Rattle.component_tree.specs.Report.{components_report}
use Rattle.component_tree.specs.declared.side.Side.{Side}
use Rattle.component_tree.specs.declared.side.Side.TheVariants.{Max, Min}
use Rattle.energy_cut.specs.Energies.{energies_of}
use Rattle.energy_cut.specs.Regions.{RegionCut, energy_cut_of}
use Rattle.energy_cut.specs.Report.{energy_report}
use Rattle.extinction.specs.HierarchicalWatershed.{hierarchical_of}
use Rattle.extinction.specs.Report.{hierarchical_report}
use Rattle.extinction.specs.Survivors.{extinctions_of}
use Rattle.hg_base.specs.declared.kind.Kind.{Kind}
use Rattle.hg_base.specs.Graph.{WeightedGraph}
use Rattle.hg_base.specs.Labels.{Labelling, labelling}
use Rattle.tree_laws.specs.Levels.{shares}
use Rattle.tree_laws.specs.Tree.{ParentTree, graph_tree}
use Rattle.tree_laws.specs.Zones.{zones_of}
use Rattle.edge_laws.specs.Saliencies.{saliencies}
use Rattle.hg_base.specs.declared.fault.InputFault.{InputFault}
use Rattle.hg_base.specs.declared.fault.FaultKind.TheVariants.{NotAPicture, TooManyLabels, TooManyTiles}
use Rattle.label_writer.specs.Report.{labels_picture, labels_report}
use Rattle.merge_board.specs.Seats.{ReceiptState}
use Rattle.partition_tree.specs.Report.{tree_report}
use Rattle.pgm_reader.specs.Raster.{Raster}
use Rattle.saliency.specs.Report.{saliency_report}
use Rattle.tile_plan.specs.Plan.{TilePlan, blocks, squares, tile_count}
use Rattle.watershed_cut.specs.Forest.{forest}
use Rattle.watershed_cut.specs.MinimumLabels.{minima_of}
use Rattle.watershed_cut.specs.Report.{minima_report, watershed_report}
use Rattle.watershed_cut.specs.Rooted.{cost}
use Rattle.watershed_cut.specs.Watershed.{watershed_of}
use Rattle.higra_input.specs.Inputs.{input_graph}
use Rattle.higra_report.specs.Summary.{summary_of, summary_report}
use Rattle.higra_words.specs.declared.request.Form.{Form}
use Rattle.higra_words.specs.declared.request.Form.TheVariants as forms
use Rattle.higra_words.specs.declared.request.Report.{Report}
use Rattle.higra_words.specs.declared.request.Report.TheVariants as reports
use Rattle.higra_words.specs.declared.request.Request.{Request}
use Rattle.higra_input.specs.declared.input.Input.{Input}
use Rattle.higra_input.specs.declared.input.Input.TheVariants.{Edges, Picture}
use Rattle.higra_report.specs.declared.fault.ReportFault.{ReportFault}
use Rattle.higra_report.specs.declared.fault.ReportFault.TheVariants as faults

-- the tree that a cut is of: the graph's own, or its hierarchical watershed by a kind
abbrev pub cut_tree : Option Kind → WeightedGraph → ParentTree
cut_tree None g = graph_tree g
cut_tree (Some kind) g = hierarchical_of g kind

-- the regions of a tree at a level, labelled by least vertex
abbrev pub regions : ParentTree → ℕ → Labelling
regions tree level = labelling (shares tree level) tree.leaves

-- the energies of the nodes of a graph's tree, with a penalty for each region
abbrev pub graph_energies : WeightedGraph → ℕ → List ℕ
graph_energies g penalty = energies_of (graph_tree g) (attributes_of g).areas penalty

-- the least cut of a graph's tree, with a penalty for each region
abbrev pub graph_energy_cut : WeightedGraph → ℕ → RegionCut
graph_energy_cut g penalty = energy_cut_of (graph_tree g) (graph_energies g penalty)

-- the labels of a report, if it has some: a watershed and the cuts have
abbrev pub labels_of : Report → WeightedGraph → Option Labelling
labels_of reports.Tree g = None
labels_of reports.Zones g = None
labels_of reports.Saliency g = None
labels_of reports.Attributes g = None
labels_of reports.Minima g = None
labels_of reports.Watershed g = Some (watershed_of g).labels
labels_of (reports.Hierarchical kind) g = None
labels_of (reports.Cut kind level) g = Some (regions (cut_tree kind g) level)
labels_of reports.Summary g = None
labels_of reports.Mintree g = None
labels_of reports.Maxtree g = None
labels_of (reports.Energy penalty) g = Some (graph_energy_cut g penalty).labels

-- the side of which a report is the component tree, if it is one
abbrev pub component_side : Report → Option Side
component_side reports.Tree = None
component_side reports.Zones = None
component_side reports.Saliency = None
component_side reports.Attributes = None
component_side reports.Minima = None
component_side reports.Watershed = None
component_side (reports.Hierarchical kind) = None
component_side (reports.Cut kind level) = None
component_side reports.Summary = None
component_side reports.Mintree = Some Min
component_side reports.Maxtree = Some Max
component_side (reports.Energy penalty) = None

-- the text of a report about a graph; that of a component tree is about a picture
unfoldable pub text_of : Report → WeightedGraph → List ℕ
text_of reports.Tree g = tree_report (graph_tree g)
text_of reports.Zones g = tree_report (zones_of (graph_tree g))
text_of reports.Saliency g = saliency_report (saliencies g)
text_of reports.Attributes g = attributes_report (attributes_of g)
text_of reports.Minima g = minima_report (minima_of g)
text_of reports.Watershed g = watershed_report (watershed_of g) (minima_of g).count (cost g (forest g))
text_of (reports.Hierarchical kind) g = hierarchical_report (hierarchical_of g kind) (extinctions_of g kind)
text_of (reports.Cut kind level) g = labels_report (regions (cut_tree kind g) level)
text_of reports.Summary g = summary_report (summary_of g)
text_of reports.Mintree g = []
text_of reports.Maxtree g = []
text_of (reports.Energy penalty) g = energy_report (graph_energy_cut g penalty) (graph_energies g penalty)

-- the component tree of a picture's samples
abbrev pub picture_components : Side → Raster → ComponentLists
picture_components side raster = component_tree_of side raster.samples (input_graph (Picture raster))

-- the text of the component tree of a picture
abbrev pub components_text : Side → Input → List ℕ
components_text side (Edges graph) = []
components_text side (Picture raster) = components_report side (picture_components side raster)

-- the text of a report about an input: of the component tree of this side, or else of the report about its graph
abbrev pub text_by : Option Side → Report → Input → List ℕ
text_by None report input = text_of report (input_graph input)
text_by (Some side) report input = components_text side input

-- the picture of labels over a picture's pixels, where there are some
abbrev pub labels_over : Raster → Option Labelling → List ℕ
labels_over raster None = []
labels_over raster (Some labels) = labels_picture labels raster.width raster.height

-- the picture of a report about an input: the labels of a picture's pixels
unfoldable pub picture_of : Report → Input → List ℕ
picture_of report (Edges graph) = []
picture_of report (Picture raster) = labels_over raster (labels_of report (input_graph (Picture raster)))

-- a report of this form
abbrev pub report_in : Form → Report → Input → List ℕ
report_in forms.Text report input = text_by (component_side report) report input
report_in forms.Pgm report input = picture_of report input

-- the report that is asked for, about an input
unfoldable pub report_of : Request → Input → List ℕ
report_of request input = report_in request.form request.report input

-- the plan of an input in tiles of this size: blocks of an edge list's vertices, or squares of a picture's pixels
abbrev pub input_plan : ℕ → Input → TilePlan
input_plan tile (Edges graph) = blocks graph tile
input_plan tile (Picture raster) = squares (input_graph (Picture raster)) raster.width raster.height tile

-- how many tiles the plan of a request's input has
abbrev pub request_tiles : Request → Input → ℕ
request_tiles request input = tile_count (input_plan request.tile input)

-- the receipt of a request's report about an input: how many tiles its plan has, how many workers are asked for, and
-- how many edges its graph has
abbrev pub request_receipt : Request → Input → ReceiptState
request_receipt request input = record { tiles = request_tiles request input; workers = request.workers; edges = length (input_graph input).edges }

-- tiles that are too many for a plan, if they are
unfoldable pub tile_fault : ℕ → Option InputFault
tile_fault count = if nat_lt 65536 count then Some (record { kind = TooManyTiles; at = 0; value = count }) else None

-- labels that are too many for a picture, if they are
unfoldable pub label_fault : ℕ → Option InputFault
label_fault count = if nat_lt 65535 count then Some (record { kind = TooManyLabels; at = 0; value = count }) else None

-- whether a report of this form is about a picture alone: it is drawn, or is a component tree
abbrev pub needs_picture : Form → Report → Bool
needs_picture forms.Text report = is_some (component_side report)
needs_picture forms.Pgm report = true

-- a picture is needed of an input that is none
abbrev pub picture_fault : Form → Report → Input → Option InputFault
picture_fault form report (Edges graph) = if needs_picture form report then Some (record { kind = NotAPicture; at = 0; value = 0 }) else None
picture_fault form report (Picture raster) = None

-- labels that are too many for a picture, if there are some and they are
abbrev pub labels_fault : Option Labelling → Option InputFault
labels_fault None = None
labels_fault (Some labels) = label_fault labels.count

-- a picture is asked for of too many labels
abbrev pub drawing_fault : Form → Report → Input → Option InputFault
drawing_fault forms.Text report input = None
drawing_fault forms.Pgm report input = labels_fault (labels_of report (input_graph input))

-- the first fault, or else the second
infixr 10 ◌before◌
abbrev pub ◌before◌ : Option InputFault → Option InputFault → Option InputFault
None before later = later
(Some fault) before later = Some fault

-- why there is no report of this form in tiles of this size, if there is none: it is no picture, or it has too many
-- tiles, or it has too many labels
abbrev pub refusal_in : Form → ℕ → Report → Input → Option InputFault
refusal_in form tile report input = picture_fault form report input before (tile_fault (tile_count (input_plan tile input)) before drawing_fault form report input)

-- why the report can't be made of the input, if it can't
unfoldable pub refusal : Request → Input → Option InputFault
refusal request input = refusal_in request.form request.tile request.report input

-- what making a report of this form in tiles of this size answers: exactly its bytes, or why there is none, or that
-- memory ran out
abbrev pub IsReportIn : Form → ℕ → Report → Input → Result (List ℕ × ReceiptState) ReportFault → Type 0
IsReportIn form tile report input (Ok made) = (refusal_in form tile report input ≡ None) × (made.0 ≡ report_in form report input)
IsReportIn form tile report input (Err (faults.Input fault)) = refusal_in form tile report input ≡ Some fault
IsReportIn form tile report input (Err faults.OutOfMemory) = Unit {0}
