use Rattle.component_tree.proofs.Weighing.{graph-made}
use Rattle.component_tree.proofs.weights.made.Goals as goal

pub with_areas-requires : goal.with_areas-requires
with_areas-requires c =
    graph-made c.args.side c.args.values.now c.args.graph.now c.n.result c.in_ok-areas.areas.items c.in_ok-edges.edges.items
    c.n.ensures.graph c.n.ensures.value c.in_ok-areas.ensures c.in_ok-edges.ensures
