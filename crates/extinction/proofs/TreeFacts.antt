-- What the tree of a graph keeps to.
use Rattle.std.proofs.Common.{◌≡◌, ℕ, ◌<◌, ◌≤◌, inl, inr, sym, ◌∙◌, ap, arith, length}
use Rattle.hg_base.specs.Graph.{WeightedGraph, IsGraph}
use Rattle.edge_laws.specs.Edges.{ListedEdge, AreApart, AreWithin, joins}
use Rattle.hg_base.specs.Lists.{IsIn}
use Rattle.edge_laws.specs.Rank.{ranked}
use Rattle.edge_laws.specs.Saliency.{AreByWeight}
use Rattle.tree_laws.specs.Tree.{graph_tree}
use Rattle.tree_laws.specs.Levels.{IsClimbing, IsLevelTree}
use Rattle.tree_laws.proofs.FrontOnce.{leaf_or_made}
use Rattle.tree_laws.proofs.Levels.{level-tree}
use Rattle.edge_laws.proofs.Ranked.{AreApart-ranked, AreWithin-ranked, AreByWeight-ranked}
use Rattle.partition_tree.specs.TreeLists.{IsWellFormed}
use Rattle.partition_tree.specs.Children.{child_count}
use Rattle.partition_tree.proofs.WellFormed.{well_formed-climbs}
use Rattle.partition_tree.proofs.TreeLemmas.{tree-well_formed}
use Rattle.extinction.proofs.SideLemmas.{AreChildrenOf, children-of}

-- the tree of a graph and its ranked edges
pub record IsOfGraph (g : WeightedGraph) : Type 0 where
  pub apart : AreApart (ranked g)
  pub within : AreWithin g.n (ranked g)
  pub by_weight : AreByWeight (ranked g)
  pub well_formed : IsWellFormed (graph_tree g)
  pub climbs : IsClimbing (graph_tree g)
  pub levels : IsLevelTree (graph_tree g) (ranked g)

pub of-graph : (g : WeightedGraph) → IsGraph g → IsOfGraph g
of-graph g h =
    let apart = AreApart-ranked g in
    let within = AreWithin-ranked g h in
    let forest = tree-well_formed g.n (ranked g) h.some_vertex h.vertices apart within in record {
      apart = apart;
      within = within;
      by_weight = AreByWeight-ranked g;
      well_formed = forest;
      climbs = well_formed-climbs (graph_tree g) forest;
      levels = level-tree g.n (ranked g) apart within (AreByWeight-ranked g);
    }

-- the children of the node of a joining edge
pub graph-children : (g : WeightedGraph) → IsOfGraph g → (e : ListedEdge) → IsIn e (joins (ranked g)) → (a : ℕ) × ((b : ℕ) × AreChildrenOf g.n (ranked g) e a b)
graph-children g o e i = children-of g.n (ranked g) o.apart o.within e i o.well_formed o.levels.some_leaf

-- an inner node has two children
pub inner-two : (g : WeightedGraph) → IsGraph g → (i : ℕ) → g.n ≤ i → i < length (graph_tree g).parents → child_count (graph_tree g) i ≡ 2
inner-two g h i inner hi =
    let o = of-graph g h in
    elim (leaf_or_made g.n (ranked g) o.apart i hi) [
      | inl leaf ↦ absurd (omega arith)
      | inr made ↦ ap (child_count (graph_tree g)) (sym made.1.1) ∙ (graph-children g o made.0 made.1.0).1.1.two
    ]
