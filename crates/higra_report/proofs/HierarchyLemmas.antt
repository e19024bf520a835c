-- What the definitions come to for every graph: the tree and its altitudes, the saliencies, the watershed cut, the
-- hierarchical watersheds and the least cuts.
use Rattle.std.proofs.Common.{◌≡◌, ℕ, ◌<◌, sym, ◌∙◌, arith}
use Rattle.std.specs.Prelude.{◌↔◌, get_or, IfOk, Result, Ok, Err}
use Rattle.std.proofs.lemmas.List.FromFn.{get_or-map-range_with_len}
use Rattle.hg_base.specs.Graph.{WeightedGraph, IsGraph}
use Rattle.tree_laws.specs.Levels.{Shares}
use Rattle.edge_laws.specs.Rank.{ranked}
use Rattle.tree_laws.specs.Tree.{ParentTree, graph_tree}
use Rattle.graph_hierarchy.specs.Hierarchies.{IsTreeOf}
use Rattle.tree_laws.proofs.FrontOnce.{front-tree}
use Rattle.edge_laws.proofs.Ranked.{AreApart-ranked, AreWithin-ranked}
use Rattle.edge_laws.proofs.Saliencies.{saliency-is}
use Rattle.energy_cut.proofs.Chosen.{least-is}
use Rattle.extinction.specs.HierarchicalWatershed.{hierarchical_of}
use Rattle.hg_base.specs.declared.kind.Kind.{Kind}
use Rattle.extinction.proofs.LevelZero.{level-zero}
use Rattle.partition_tree.specs.TreeLists.{IsWellFormed}
use Rattle.partition_tree.proofs.TreeLemmas.{tree-well_formed}
use Rattle.watershed_cut.specs.Watershed.{tree_label, watershed_of}
use Rattle.watershed_cut.proofs.PlantedTrees.{watershed-is}
use Rattle.higra_report.specs.Reports.{graph_energies}
use Rattle.higra_report.specs.Theorems.{BeginsAtWatershed, IsHierarchy}
use Rattle.higra_report.proofs.AltitudeLemmas.{altitudes-are}

-- the tree of a graph is a forest
pub graph-forest : (g : WeightedGraph) → IsGraph g → IsWellFormed (graph_tree g)
graph-forest g is = tree-well_formed g.n (ranked g) is.some_vertex is.vertices (AreApart-ranked g) (AreWithin-ranked g is)

-- the label that the watershed cut gives a vertex
label-at : (g : WeightedGraph) (x : ℕ) → x < g.n → get_or (watershed_of g).labels.labels x 0 ≡ tree_label g.n (ranked g) x
label-at g x h = get_or-map-range_with_len (tree_label g.n (ranked g)) 0 g.n x x 0 h (omega arith)

-- a hierarchical watershed begins at the watershed cut
begins-at : (g : WeightedGraph) → IsGraph g → (kind : Kind) → BeginsAtWatershed g (hierarchical_of g kind)
begins-at g is kind x y hx hy =
    let law : Shares (hierarchical_of g kind) 0 x y ↔ (tree_label g.n (ranked g) x ≡ tree_label g.n (ranked g) y) = level-zero g is kind x y hx hy in
    (λ shared. label-at g x hx ∙ law.0 shared ∙ sym (label-at g y hy), λ one. law.1 (sym (label-at g x hx) ∙ one ∙ label-at g y hy))

-- so the hierarchy of every graph is one
pub hierarchy-is : (g : WeightedGraph) → IsGraph g → IsHierarchy g
hierarchy-is g is = record {
  nodes = front-tree g.n (ranked g) (AreApart-ranked g) (AreWithin-ranked g is);
  altitudes = altitudes-are g.n (ranked g) (AreApart-ranked g) (AreWithin-ranked g is);
  saliencies = λ e h. saliency-is g e h;
  watershed = watershed-is g is;
  hierarchies = begins-at g is;
  cuts = λ penalty. least-is (graph_tree g) (graph_energies g penalty) (graph-forest g is);
}

-- that of a graph whose tree was made
pub is_hierarchy : (g : WeightedGraph) (t : ParentTree) → IsTreeOf g t → IsHierarchy g
is_hierarchy g t is = hierarchy-is g is.graph

-- what holds holds where a call answers Ok
pub where_ok : {T E : Type 0} (r : Result T E) (P : Type 0) → P → IfOk r (λ _. P)
where_ok (Ok x) P p = p
where_ok (Err e) P p = tt
