-- A graph with a value for each vertex has a component tree: that of the function.
use Rattle.std.proofs.Common.{◌≡◌, ℕ, ◌≤◌, refl, subst, List, ◌++◌, map}
use Rattle.std.specs.List.{range_with_len}
use Rattle.hg_base.specs.Graph.{WeightedGraph, IsGraph}
use Rattle.edge_laws.specs.Edges.{EdgeList}
use Rattle.edge_laws.specs.Rank.{ranked}
use Rattle.tree_laws.specs.Tree.{ParentTree, tree_of}
use Rattle.partition_tree.specs.TreeLists.{IsWellFormed}
use Rattle.partition_tree.proofs.TreeLemmas.{tree-well_formed}
use Rattle.component_tree.specs.declared.side.Side.{Side}
use Rattle.component_tree.specs.declared.nodes.Component.{Component}
use Rattle.component_tree.specs.Components.{ComponentLists, IsComponentTree}
use Rattle.component_tree.specs.MinTree.{turned, value_at, component_tree_of}
use Rattle.component_tree.specs.Values.{AreValues}
use Rattle.component_tree.specs.Weighed.{weighed_graph}
use Rattle.component_tree.specs.NodeComponents.{levels_in, parent_of_leaf, component_parent, HasLeaves, AreFloodEdges, IsTurnedTree}
use Rattle.component_tree.proofs.Sided.{value-fits}
use Rattle.component_tree.proofs.ListsOfTree.{lists, weighed-flood, flood-leaves, turned-components, turned-function, finished}
use Rattle.component_tree.proofs.Weighing.{graph-weighed}
use Rattle.component_tree.proofs.ListsExist.{leasts-exist, components-exist, places-exist}

-- a tree over the nodes of a flood's tree
turned-exists : (side : Side) (values : List ℕ) (t : ParentTree) (s : EdgeList) → AreValues values → IsWellFormed t → HasLeaves t →
    AreFloodEdges (λ x. turned side (value_at values x)) t.leaves s → t ≡ tree_of t.leaves s → (tree : ComponentLists) × IsTurnedTree side values t.leaves s tree
turned-exists side values t s fits forest leaves e same =
    let levels = levels_in side values t in
    let l = leasts-exist t forest leaves in
    let c = components-exist t forest levels l.0 in
    let p = places-exist t forest levels l.0 c.0 c.1 in
    let parents : List ℕ = map (parent_of_leaf t p.0) (range_with_len 0 t.leaves) ++ map (component_parent t p.0) c.0 in
    let out : List ℕ = map (value_at values) (range_with_len 0 t.leaves) ++ map (λ (x : Component). turned side x.level) c.0 in
    (lists t.leaves parents out, finished side values t s levels l.0 c.0 p.0 parents out t.leaves (lists t.leaves parents out) fits forest refl l.1 c.1 p.1 refl refl refl refl e same)

pub is-one : (side : Side) (values : List ℕ) (g : WeightedGraph) → IsGraph g → AreValues values → IsComponentTree side (value_at values) g.n (ranked g) (component_tree_of side values g)
is-one side values g is fits =
    subst (IsComponentTree side (value_at values) g.n (ranked g))
    (turned-function side values w g tree.0 refl small graph tree.1)
    (turned-components side values w g tree.0 refl small tree.1)
  where
    w : WeightedGraph
    w = weighed_graph side values g

    small : (x : ℕ) → value_at values x ≤ 4294967295
    small = value-fits values fits.each

    graph : IsGraph (weighed_graph side values g)
    graph = graph-weighed side values g is

    flood : AreFloodEdges (λ x. turned side (value_at values x)) g.n (ranked (weighed_graph side values g))
    flood = weighed-flood side values (weighed_graph side values g) g refl (value-fits values fits.each) (graph-weighed side values g is)

    tree : (tree : ComponentLists) × IsTurnedTree side values g.n (ranked (weighed_graph side values g)) tree
    tree =
        turned-exists side values (tree_of g.n (ranked (weighed_graph side values g))) (ranked (weighed_graph side values g)) fits
        (tree-well_formed g.n (ranked (weighed_graph side values g)) is.some_vertex is.vertices flood.apart flood.within)
        (flood-leaves (λ x. turned side (value_at values x)) g.n (ranked (weighed_graph side values g)) flood)
        flood refl
