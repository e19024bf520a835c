use Rattle.std.proofs.Common.{ℕ, sym, ◌∙◌, ap, List, length}
use Rattle.tree_laws.specs.Tree.{tree_of, graph_tree}
use Rattle.component_tree.specs.Weighed.{weighed_graph}
use Rattle.tree_tests.proofs.component_tree_tests.components.Goals as goal

pub component_tree-requires-clause-tree : goal.component_tree-requires-clause-tree
component_tree-requires-clause-tree g c =
    let weighed =
    c.in_ok-weighed.ensures
    ∙ ap (λ (v : List ℕ). weighed_graph c.args.side v c.in_ok-graph.graph) (c.new-values.ensures ∙ c.in_ok-from_slice.ensures.items)
    ∙ ap (weighed_graph c.args.side c.args.samples.now) c.in_ok-graph.ensures in
    c.in_ok-tree.ensures.tree ∙ ap (tree_of (length c.args.samples.now)) c.requires.ranked ∙ sym (ap graph_tree weighed)
