-- The regions of the trees that are cut.
use Rattle.std.proofs.Common.{◌≡◌, ℕ, Option, Some, None, refl, ap, sym, ◌∙◌}
use Rattle.extinction.specs.HierarchicalWatershed.{hierarchical_of}
use Rattle.hg_base.specs.declared.kind.Kind.{Kind}
use Rattle.hg_base.specs.Graph.{WeightedGraph}
use Rattle.tree_laws.specs.Tree.{ParentTree, graph_tree}
use Rattle.tree_laws.specs.Zones.{zones_of}
use Rattle.graph_hierarchy.specs.Hierarchies.{IsTreeOf}
use Rattle.higra_report.specs.Reports.{cut_tree, regions}

-- the regions of the graph's own tree
pub regions_own : (g : WeightedGraph) (t : ParentTree) (kind : Option Kind) (level : ℕ) → kind ≡ None → t ≡ graph_tree g → regions t level ≡ regions (cut_tree kind g) level
regions_own g t kind level own same = ap (λ (u : ParentTree). regions u level) (same ∙ ap (λ (k : Option Kind). cut_tree k g) (sym own))

-- and of its hierarchical watershed
pub regions_by : (g : WeightedGraph) (t : ParentTree) (kinds : Option Kind) (kind : Kind) (level : ℕ) → kinds ≡ Some kind → t ≡ hierarchical_of g kind → regions t level ≡ regions (cut_tree kinds g) level
regions_by g t kinds kind level some same = ap (λ (u : ParentTree). regions u level) (same ∙ ap (λ (k : Option Kind). cut_tree k g) (sym some))

-- a tree that is cut has the graph's vertices as leaves
pub cut-leaves : (kind : Option Kind) (g : WeightedGraph) → (cut_tree kind g).leaves ≡ g.n
cut-leaves None g = refl
cut-leaves (Some kind) g = refl

-- the zones of a graph's tree
pub zones_are : (g : WeightedGraph) (t z : ParentTree) → IsTreeOf g t → z ≡ zones_of t → z ≡ zones_of (graph_tree g)
zones_are g t z is made = made ∙ ap zones_of is.same
