-- The ends of each edge of a graph are below one root of its tree.
use Rattle.std.proofs.Common.{◌≡◌, ◌≤◌, [], length, refl, sym, subst, arith}
use Rattle.hg_base.specs.Graph.{WeightedGraph, IsGraph, first_end, second_end}
use Rattle.edge_laws.specs.Rank.{ranked}
use Rattle.edge_laws.specs.Saliencies.{saliency}
use Rattle.tree_laws.specs.Tree.{ParentTree, graph_tree}
use Rattle.tree_laws.proofs.Levels.{level-tree}
use Rattle.edge_laws.proofs.Ranked.{AreApart-ranked, AreByWeight-ranked, AreWithin-ranked, ends-within}
use Rattle.edge_laws.proofs.Saliencies.{saliency-is}
use Rattle.partition_tree.specs.TreeLists.{IsWellFormed}
use Rattle.partition_tree.proofs.PathLemmas.{common-shares}
use Rattle.saliency.specs.Values.{EndsShareRoots}
use Rattle.graph_hierarchy.specs.Hierarchies.{IsTreeOf}

-- the ends of each edge are below one root
ends-share : (g : WeightedGraph) → IsGraph g → IsWellFormed (graph_tree g) → EndsShareRoots g (graph_tree g)
ends-share g graph forest e h =
    let ends = ends-within g graph e h in
    let above = (level-tree g.n (ranked g) (AreApart-ranked g) (AreWithin-ranked g graph) (AreByWeight-ranked g)).one_above (saliency g e) (first_end g e) ends.0 in
    let few : g.n ≤ length (graph_tree g).parents = omega (arith, forest.one_maker_each) in
    common-shares (graph_tree g) forest (first_end g e) (second_end g e) above.0 (omega (arith, few, ends.0))
    (above.1.1 (first_end g e) ends.0 ([], refl), above.1.1 (second_end g e) ends.1 (saliency-is g e h).joins)

pub shared_roots : (g : WeightedGraph) (t : ParentTree) → IsTreeOf g t → EndsShareRoots g t
shared_roots g t is = subst (λ (u : ParentTree). EndsShareRoots g u) (sym is.same) (ends-share g is.graph (subst IsWellFormed is.same is.well_formed))
