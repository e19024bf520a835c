-- What stands beside every report: the theorems about the graph of its input.
use Rattle.std.specs.Prelude.{◌≡◌, ◌↔◌, ℕ, ◌<◌, get_or, length, Option, Some, None}
use Rattle.component_tree.specs.Components.{IsComponentTree}
use Rattle.component_tree.specs.MinTree.{value_at}
use Rattle.component_tree.specs.declared.side.Side.{Side}
use Rattle.energy_cut.specs.Cuts.{IsLeastCut}
use Rattle.extinction.specs.HierarchicalWatershed.{hierarchical_of}
use Rattle.hg_base.specs.Graph.{WeightedGraph}
use Rattle.tree_laws.specs.Levels.{Shares}
use Rattle.edge_laws.specs.Rank.{ranked}
use Rattle.tree_laws.specs.Tree.{IsFrontTree, ParentTree, graph_tree}
use Rattle.edge_laws.specs.Saliency.{IsSaliency}
use Rattle.edge_laws.specs.Saliencies.{saliency}
use Rattle.hg_base.specs.declared.kind.Kind.{Kind}
use Rattle.watershed_cut.specs.Watershed.{IsWatershed, watershed_of}
use Rattle.higra_input.specs.Inputs.{input_graph}
use Rattle.higra_input.specs.declared.input.Input.{Input}
use Rattle.higra_input.specs.declared.input.Input.TheVariants.{Edges, Picture}
use Rattle.higra_report.specs.Altitudes.{HasAltitudes}
use Rattle.higra_report.specs.Reports.{graph_energies, graph_energy_cut, picture_components}

-- Two vertices share a node of altitude 0 of the hierarchical watershed exactly where the watershed cut gives them one label.
abbrev pub BeginsAtWatershed : WeightedGraph → ParentTree → Type 0
BeginsAtWatershed g tree =
    (x y : ℕ) → x < g.n → y < g.n → (Shares tree 0 x y ↔ (get_or (watershed_of g).labels.labels x 0 ≡ get_or (watershed_of g).labels.labels y 0))

-- the nodes of a graph's tree are the components of its fronts, each once, and have the altitudes of these, the saliency
-- of each edge is the least weight that joins its ends, the watershed cut is one, each hierarchical watershed begins at it,
-- and each least cut is one
pub record IsHierarchy (g : WeightedGraph) : Type 0 where
  pub nodes : IsFrontTree (graph_tree g) g.n (ranked g)
  pub altitudes : HasAltitudes (graph_tree g) (ranked g)
  pub saliencies : (e : ℕ) → e < length g.edges → IsSaliency g e (saliency g e)
  pub watershed : IsWatershed g (watershed_of g)
  pub hierarchies : (kind : Kind) → BeginsAtWatershed g (hierarchical_of g kind)
  pub cuts : (penalty : ℕ) → IsLeastCut (graph_tree g) (graph_energies g penalty) (graph_energy_cut g penalty).nodes

-- the nodes of a picture's component tree are the components of its pixels up to each sample, or from each on, each once
abbrev pub HasComponentsOf : Side → Input → Type 0
HasComponentsOf side (Edges graph) = Unit {0}
HasComponentsOf side (Picture raster) =
    IsComponentTree side (value_at raster.samples) (input_graph (Picture raster)).n (ranked (input_graph (Picture raster))) (picture_components side raster)

-- the same of the component tree of a side that is reported, if one is
abbrev pub HasComponents : Option Side → Input → Type 0
HasComponents None input = Unit {0}
HasComponents (Some side) input = HasComponentsOf side input
