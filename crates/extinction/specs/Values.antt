-- The attributes by which a hierarchy is made.
use Rattle.std.specs.Prelude.{◌≡◌, ℕ, List}
use Rattle.hg_base.specs.Graph.{WeightedGraph, IsGraph}
use Rattle.tree_laws.specs.Tree.{ParentTree, graph_tree}
use Rattle.attributes.specs.Attributes.{AttributeLists, attributes_of}
use Rattle.watershed_cut.specs.MinimumLabels.{LabelledMinima, minima_of}
use Rattle.hg_base.specs.declared.kind.Kind.{Kind}
use Rattle.hg_base.specs.declared.kind.Kind.TheVariants as kinds

-- the attributes of this kind, by number of node
abbrev pub attribute_values : Kind → AttributeLists → List ℕ
attribute_values kinds.Area a = a.areas
attribute_values kinds.Volume a = a.volumes
attribute_values kinds.Dynamics a = a.dynamics

-- the attributes of this kind of the nodes of a graph's tree
abbrev pub graph_values : WeightedGraph → Kind → List ℕ
graph_values g kind = attribute_values kind (attributes_of g)

-- tree, attributes and minima are those of the graph
pub record AreOf (g : WeightedGraph) (t : ParentTree) (a : AttributeLists) (m : LabelledMinima) : Type 0 where
  pub graph : IsGraph g
  pub tree : t ≡ graph_tree g
  pub attributes : a ≡ attributes_of g
  pub minima : m ≡ minima_of g

-- they are those of some graph
abbrev pub AreOfOne : ParentTree → AttributeLists → LabelledMinima → Type 0
AreOfOne t a m = (g : WeightedGraph) × AreOf g t a m

-- tree and minima are those of some graph
abbrev pub AreOfMinima : ParentTree → LabelledMinima → Type 0
AreOfMinima t m = (g : WeightedGraph) × (IsGraph g × ((t ≡ graph_tree g) × (m ≡ minima_of g)))
