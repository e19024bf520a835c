use Rattle.std.proofs.Common.{◌≡◌, ℕ, sym, ◌∙◌, ap, length}
use Rattle.hg_base.specs.Graph.{WeightedGraph}
use Rattle.tree_laws.specs.Tree.{tree_of, graph_tree}
use Rattle.partition_tree.specs.Ranked.{edges_of}
use Rattle.tree_tests.specs.Graphs.{graph_from}
use Rattle.tree_tests.proofs.attributes_tests.attributes.Goals as goal

pub of-requires : goal.of-requires
of-requires g c =
    let is : c.in_ok-graph.graph ≡ graph_from (length c.args.areas.now) c.args.areas.now c.args.rows.now = c.in_ok-graph.ensures in
    c.in_ok-tree.ensures.tree
    ∙ ap (λ (n : ℕ). tree_of n (edges_of c.args.list.now)) (c.n.ensures.value ∙ ap (λ (h : WeightedGraph). h.n) is)
    ∙ ap (tree_of (length c.args.areas.now)) c.requires.ranked
    ∙ sym (ap graph_tree is)

pub are_found_in_threads-requires-clause-tree : goal.are_found_in_threads-requires-clause-tree
are_found_in_threads-requires-clause-tree g c κs within =
    let is : c.in_ok-graph.graph ≡ graph_from (length c.args.areas.now) c.args.areas.now c.args.rows.now = c.in_ok-graph.ensures in
    c.in_ok-tree.ensures.tree
    ∙ ap (λ (n : ℕ). tree_of n (edges_of c.args.list.now)) (c.n.ensures.value ∙ ap (λ (h : WeightedGraph). h.n) is)
    ∙ ap (tree_of (length c.args.areas.now)) c.requires.ranked
    ∙ sym (ap graph_tree is)
