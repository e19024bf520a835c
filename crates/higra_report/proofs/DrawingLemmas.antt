-- Labels that are drawn as pictures.
use Rattle.std.proofs.Common.{◌≡◌, ℕ, ◌<◌, ◌≤◌, ◌*◌, true, List, length, Option, Some, None, Result, Ok, Err, refl, sym, ap, ◌∙◌, arith}
use Rattle.std.proofs.lemmas.Bool.{lt-ltb, le-ltb}
use Rattle.std.proofs.lemmas.List.FromFn.{length-map-range_with_len}
use Rattle.hg_base.specs.Graph.{WeightedGraph}
use Rattle.energy_cut.specs.Regions.{in_one_region}
use Rattle.hg_base.specs.declared.kind.Kind.{Kind}
use Rattle.hg_base.specs.Labels.{Labelling, class_label}
use Rattle.tree_laws.specs.Levels.{shares}
use Rattle.edge_laws.specs.Rank.{ranked}
use Rattle.tree_laws.specs.Tree.{graph_tree}
use Rattle.hg_base.specs.declared.fault.InputFault.{InputFault}
use Rattle.hg_base.specs.declared.fault.FaultKind.TheVariants.{TooManyLabels}
use Rattle.pgm_reader.specs.Raster.{Raster}
use Rattle.tile_plan.specs.Plan.{tile_count}
use Rattle.watershed_cut.specs.Watershed.{tree_label, watershed_of}
use Rattle.higra_report.specs.Drawing.{AreLabelsDrawn}
use Rattle.higra_input.specs.Inputs.{input_graph}
use Rattle.higra_report.proofs.ComponentLemmas.{no_components}
use Rattle.higra_report.proofs.PlanningLemmas.{before_none}
use Rattle.higra_report.proofs.CutLemmas.{cut-leaves}
use Rattle.higra_report.specs.Reports.{IsReportIn, component_side, cut_tree, graph_energy_cut, label_fault, labels_over, labels_fault, labels_of, picture_of, input_plan, refusal_in, regions, tile_fault}
use Rattle.higra_input.specs.declared.input.Input.TheVariants.{Picture}
use Rattle.higra_words.specs.declared.request.Form.TheVariants.{Pgm}
use Rattle.higra_words.specs.declared.request.Report.{Report}
use Rattle.higra_words.specs.declared.request.Report.TheVariants as reports
use Rattle.higra_words.specs.Request.{can_be_drawn}
use Rattle.higra_report.specs.Theorems.{HasComponents}
use Rattle.higra_input.specs.declared.input.Input.{Input}
use Rattle.higra_report.specs.declared.fault.ReportFault.{ReportFault}
use Rattle.higra_report.specs.declared.fault.ReportFault.TheVariants as faults

-- what drawing a report about a picture answers
abbrev pub IsReportDrawn : ℕ → Report → Raster → Result (List ℕ) ReportFault → Type 0
IsReportDrawn tile report r (Ok bytes) = (refusal_in Pgm tile report (Picture r) ≡ None) × (bytes ≡ picture_of report (Picture r))
IsReportDrawn tile report r (Err (faults.Input fault)) = refusal_in Pgm tile report (Picture r) ≡ Some fault
IsReportDrawn tile report r (Err faults.OutOfMemory) = Unit {0}

-- there is a label for each pixel
pub region_pixels : (r : Raster) (g : WeightedGraph) (kind : Option Kind) (level : ℕ) (l : Labelling) → g ≡ input_graph (Picture r) → l ≡ regions (cut_tree kind g) level → r.width * r.height ≡ length l.labels
region_pixels r g kind level l same made =
    sym (ap (λ (h : WeightedGraph). h.n) same)
    ∙ sym (ap (λ (m : Labelling). length m.labels) made ∙ length-map-range_with_len (class_label (shares (cut_tree kind g) level)) 0 (cut_tree kind g).leaves ∙ cut-leaves kind g)

pub energy_pixels : (r : Raster) (g : WeightedGraph) (penalty : ℕ) (l : Labelling) → g ≡ input_graph (Picture r) → l ≡ (graph_energy_cut g penalty).labels → r.width * r.height ≡ length l.labels
energy_pixels r g penalty l same made =
    sym (ap (λ (h : WeightedGraph). h.n) same)
    ∙ sym (ap (λ (m : Labelling). length m.labels) made ∙ length-map-range_with_len (class_label (in_one_region (graph_tree g) (graph_energy_cut g penalty).nodes)) 0 g.n)

pub watershed_pixels : (r : Raster) (g : WeightedGraph) (l : Labelling) → g ≡ input_graph (Picture r) → l ≡ (watershed_of g).labels → r.width * r.height ≡ length l.labels
watershed_pixels r g l same made =
    sym (ap (λ (h : WeightedGraph). h.n) same) ∙ sym (ap (λ (m : Labelling). length m.labels) made ∙ length-map-range_with_len (tree_label g.n (ranked g)) 0 g.n)

-- up to 65,535 labels are no fault
pub few_labels : (count : ℕ) → ¬ (65535 < count) → label_fault count ≡ None
unfolding label_fault
few_labels count few = let low : count ≤ 65535 = omega (arith, few) in rw (le-ltb _ _ low) refl

abbrev too_many : ℕ → InputFault
too_many count = record { kind = TooManyLabels; at = 0; value = count }

-- more are
pub many_labels : (count named : ℕ) → named ≡ count → 65535 < count → label_fault count ≡ Some (record { kind = TooManyLabels; at = 0; value = named })
unfolding label_fault
many_labels count named same more =
    let fault : label_fault count ≡ Some (too_many count) = rw (lt-ltb _ _ more) refl in fault ∙ ap (λ (n : ℕ). Some (too_many n)) (sym same)

-- the labels that were drawn are the picture of the report, which isn't refused; and what couldn't be drawn is refused
drawn_labels : (r : Raster) (tile : ℕ) (report : Report) (l : Option Labelling) (drawn : Result (List ℕ) ReportFault) → tile_fault (tile_count (input_plan tile (Picture r))) ≡ None → l ≡ labels_of report (input_graph (Picture r))
    → AreLabelsDrawn l r drawn → IsReportDrawn tile report r drawn
unfolding picture_of
drawn_labels r tile report None drawn few are is = absurd is
drawn_labels r tile report (Some l) (Ok bytes) few are is =
    (before_none _ _ None few (ap labels_fault (sym are) ∙ is.0), is.1 ∙ ap (λ (m : Option Labelling). labels_over r m) are)
drawn_labels r tile report (Some l) (Err (faults.Input fault)) few are is = before_none _ _ (Some fault) few (ap labels_fault (sym are) ∙ is)
drawn_labels r tile report (Some l) (Err faults.OutOfMemory) few are is = tt

-- the same of the labels of a graph that is the picture's
pub drawn_report : (r : Raster) (tile : ℕ) (report : Report) (g : WeightedGraph) (drawn : Result (List ℕ) ReportFault) → tile_fault (tile_count (input_plan tile (Picture r))) ≡ None → g ≡ input_graph (Picture r)
    → AreLabelsDrawn (labels_of report g) r drawn → IsReportDrawn tile report r drawn
drawn_report r tile report g drawn few same is = drawn_labels r tile report (labels_of report g) drawn few (ap (labels_of report) same) is

-- what couldn't be drawn
drawn_err : (r : Raster) (tile : ℕ) (report : Report) (fault : ReportFault) → IsReportDrawn tile report r (Err fault) → IsReportIn Pgm tile report (Picture r) (Err fault)
drawn_err r tile report (faults.Input fault) is = is
drawn_err r tile report faults.OutOfMemory is = tt

pub drawn_fault : (r : Raster) (tile : ℕ) (report : Report) (g : WeightedGraph) (fault : ReportFault) → tile_fault (tile_count (input_plan tile (Picture r))) ≡ None → g ≡ input_graph (Picture r)
    → AreLabelsDrawn (labels_of report g) r (Err fault) → IsReportIn Pgm tile report (Picture r) (Err fault)
drawn_fault r tile report g fault few same is = drawn_err r tile report fault (drawn_report r tile report g (Err fault) few same is)

-- what is drawn is no component tree
alone : (report : Report) → can_be_drawn report ≡ true → component_side report ≡ None
alone reports.Tree is = cc
alone reports.Zones is = cc
alone reports.Saliency is = cc
alone reports.Attributes is = cc
alone reports.Minima is = cc
alone reports.Watershed is = refl
alone (reports.Hierarchical kind) is = cc
alone (reports.Cut kind level) is = refl
alone reports.Summary is = cc
alone reports.Mintree is = cc
alone reports.Maxtree is = cc
alone (reports.Energy penalty) is = refl

pub drawn_alone : (report : Report) (input : Input) → can_be_drawn report ≡ true → HasComponents (component_side report) input
drawn_alone report input drawn = no_components report input (alone report drawn)
