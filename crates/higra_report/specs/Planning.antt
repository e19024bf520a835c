-- What making the order and the tree of an input's graph answers.
use Rattle.std.specs.Prelude.{◌≡◌, ℕ, Some, None, Result, Ok, Err}
use Rattle.graph_hierarchy.specs.Hierarchies.{IsHierarchyOf}
use Rattle.graph_hierarchy.specs.Tilings.{plan_in}
use Rattle.graph_hierarchy.specs.declared.fault.HierarchyFault.{HierarchyFault}
use Rattle.graph_hierarchy.specs.declared.fault.HierarchyFault.TheVariants as hierarchies
use Rattle.graph_hierarchy.specs.declared.hierarchy.GraphHierarchy.{GraphHierarchy}
use Rattle.graph_hierarchy.specs.declared.tiling.Tiling.{Tiling}
use Rattle.hg_base.specs.declared.fault.FaultKind.TheVariants.{TooManyTiles}
use Rattle.hg_base.specs.Graph.{WeightedGraph}
use Rattle.tile_plan.specs.Plan.{tile_count}
use Rattle.higra_report.specs.Reports.{tile_fault}
use Rattle.higra_report.specs.declared.fault.ReportFault.{ReportFault}
use Rattle.higra_report.specs.declared.fault.ReportFault.TheVariants as faults

-- why there is no tree, as why there is no report
abbrev pub report_fault : HierarchyFault → ReportFault
report_fault (hierarchies.TooManyTiles count) = faults.Input (record { kind = TooManyTiles; at = 0; value = count })
report_fault hierarchies.OutOfMemory = faults.OutOfMemory

-- they are the graph's, made in these tiles, which are not too many for a report
pub record IsMadeIn (g : WeightedGraph) (tiling : Tiling) (workers : ℕ) (made : GraphHierarchy) : Type 0 where
  pub own : IsHierarchyOf g tiling workers made
  pub few : tile_fault (tile_count (plan_in g tiling)) ≡ None

-- what making them answers: them, or that there are too many tiles, or that memory ran out
abbrev pub IsPlanned : WeightedGraph → Tiling → ℕ → Result GraphHierarchy ReportFault → Type 0
IsPlanned g tiling workers (Ok made) = IsMadeIn g tiling workers made
IsPlanned g tiling workers (Err (faults.Input fault)) = tile_fault (tile_count (plan_in g tiling)) ≡ Some fault
IsPlanned g tiling workers (Err faults.OutOfMemory) = Unit {0}
