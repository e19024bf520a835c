-- Reports that are component trees, and those that are not.
use Rattle.std.proofs.Common.{◌≡◌, ℕ, ◌*◌, List, length, Option, Some, None, refl, sym, ap, ◌∙◌, subst}
use Rattle.std.specs.Prelude.{is_some, if◌then◌else◌}
use Rattle.std.proofs.lemmas.List.{length-map}
use Rattle.component_tree.specs.Report.{components_report}
use Rattle.component_tree.specs.Weighed.{weighed_edge, weighed_graph}
use Rattle.component_tree.specs.declared.side.Side.{Side}
use Rattle.hg_base.specs.Graph.{WeightedGraph}
use Rattle.hg_base.specs.declared.fault.InputFault.{InputFault}
use Rattle.hg_base.specs.declared.fault.FaultKind.TheVariants.{NotAPicture}
use Rattle.pgm_reader.specs.Raster.{Raster}
use Rattle.tile_plan.specs.Plan.{tile_count}
use Rattle.higra_input.specs.Inputs.{input_graph}
use Rattle.higra_report.specs.Reports.{component_side, picture_components, picture_fault, input_plan, refusal_in, report_in, text_by, text_of, tile_fault}
use Rattle.higra_report.specs.Theorems.{HasComponents, HasComponentsOf}
use Rattle.higra_report.proofs.PlanningLemmas.{before_none, before_some}
use Rattle.higra_input.specs.declared.input.Input.{Input}
use Rattle.higra_input.specs.declared.input.Input.TheVariants.{Edges, Picture}
use Rattle.higra_words.specs.declared.request.Form.TheVariants.{Text}
use Rattle.higra_words.specs.declared.request.Report.{Report}

-- a report that is no component tree has none
pub no_components : (report : Report) (input : Input) → component_side report ≡ None → HasComponents (component_side report) input
no_components report input none = subst (λ (s : Option Side). HasComponents s input) (sym none) tt

-- one that is has its own
pub has_components : (report : Report) (side : Side) (input : Input) → component_side report ≡ Some side → HasComponentsOf side input → HasComponents (component_side report) input
has_components report side input some has = subst (λ (s : Option Side). HasComponents s input) (sym some) has

-- a report about a graph needs no picture
no-picture : (report : Report) (input : Input) → component_side report ≡ None → picture_fault Text report input ≡ None
no-picture report (Edges graph) none = ap (λ (s : Option Side). if is_some s then Some (record { kind = NotAPicture; at = 0; value = 0 }) else None) none
no-picture report (Picture raster) none = refl

-- so it is refused by the number of tiles alone
pub graph_accepted : (tile : ℕ) (report : Report) (input : Input) → component_side report ≡ None → tile_fault (tile_count (input_plan tile input)) ≡ None → refusal_in Text tile report input ≡ None
graph_accepted tile report input none few = before_none _ _ None (no-picture report input none) (before_none _ _ None few refl)

pub graph_refused : (tile : ℕ) (report : Report) (input : Input) (fault : InputFault) → component_side report ≡ None → tile_fault (tile_count (input_plan tile input)) ≡ Some fault → refusal_in Text tile report input ≡ Some fault
graph_refused tile report input fault none many = before_none _ _ (Some fault) (no-picture report input none) (before_some _ _ fault many)

-- its text is the one about the graph
pub graph_text : (report : Report) (input : Input) (bytes : List ℕ) → component_side report ≡ None → bytes ≡ text_of report (input_graph input) → bytes ≡ report_in Text report input
graph_text report input bytes none made = made ∙ ap (λ (s : Option Side). text_by s report input) (sym none)

-- a component tree of an edge list is refused
pub edges_refused : (tile : ℕ) (report : Report) (side : Side) (g : WeightedGraph) → component_side report ≡ Some side → refusal_in Text tile report (Edges g) ≡ Some (record { kind = NotAPicture; at = 0; value = 0 })
edges_refused tile report side g some =
    before_some _ _ _ (ap (λ (s : Option Side). if is_some s then Some (record { kind = NotAPicture; at = 0; value = 0 }) else None) some)

-- that of a picture by the number of tiles alone
pub picture_accepted : (tile : ℕ) (report : Report) (r : Raster) → tile_fault (tile_count (input_plan tile (Picture r))) ≡ None → refusal_in Text tile report (Picture r) ≡ None
picture_accepted tile report r few = before_none _ _ None few refl

pub picture_refused : (tile : ℕ) (report : Report) (r : Raster) (fault : InputFault) → tile_fault (tile_count (input_plan tile (Picture r))) ≡ Some fault → refusal_in Text tile report (Picture r) ≡ Some fault
picture_refused tile report r fault many = before_some _ _ fault many

-- and its text is the one of the component tree
pub components_text_is : (report : Report) (side : Side) (r : Raster) (bytes : List ℕ) → component_side report ≡ Some side → bytes ≡ components_report side (picture_components side r) → bytes ≡ report_in Text report (Picture r)
components_text_is report side r bytes some made = made ∙ ap (λ (s : Option Side). text_by s report (Picture r)) (sym some)

-- a graph that was weighed has the picture's pixels as vertices
pub weighed_pixels : (r : Raster) (side : Side) (values : List ℕ) (g w : WeightedGraph) → g ≡ input_graph (Picture r) → w ≡ weighed_graph side values g → r.width * r.height ≡ w.n
weighed_pixels r side values g w same weighed = ap (λ (h : WeightedGraph). h.n) (sym same) ∙ ap (λ (h : WeightedGraph). h.n) (sym weighed)

-- and as many edges
pub weighed_edges : (r : Raster) (side : Side) (values : List ℕ) (g w : WeightedGraph) → g ≡ input_graph (Picture r) → w ≡ weighed_graph side values g → length w.edges ≡ length (input_graph (Picture r)).edges
weighed_edges r side values g w same weighed =
    ap (λ (h : WeightedGraph). length h.edges) weighed ∙ length-map g.edges (weighed_edge side values) ∙ ap (λ (h : WeightedGraph). length h.edges) same
