use Rattle.std.proofs.Common.{◌≡◌, take, All}
use Rattle.hg_base.specs.Graph.{JoinsTwo}
use Rattle.edge_order.proofs.order.edges.Given as goal

abbrev pub invariant-loop-number : goal.invariant-loop-number
invariant-loop-number l = record {
  so_far : l.edges.items ≡ take l.number l.graph.edges;
  ends : All (JoinsTwo l.graph.n) l.edges.items;
}
