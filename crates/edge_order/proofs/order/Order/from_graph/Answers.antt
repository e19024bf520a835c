-- The tables are those of the graph.
use Rattle.std.proofs.Common.{◌∙◌}
use Rattle.edge_order.proofs.Rows.{own-keys, own-order}
use Rattle.edge_order.proofs.order.Order.from_graph.Goals as goal

pub invariant_of-result : goal.invariant_of-result
invariant_of-result g c = record {
  few = c.in_ok-edges.ensures.few;
  keys = c.in_ok-keys.ensures.keys ∙ own-keys c.args.graph.now c.n.result c.in_ok-edges.edges.items c.in_ok-edges.ensures.edges;
  rising = c.in_ok-keys.ensures.rising;
  ends = rw c.n.ensures.value c.in_ok-edges.ensures.ends;
}

pub returns : goal.returns
returns g c = own-order c.args.graph.now c.n.result c.in_ok-edges.edges.items c.n.ensures.value c.in_ok-edges.ensures.edges
