use Rattle.std.proofs.Common.{sym, arith}
use Rattle.edge_order.specs.OrderFields.{graph_in}
use Rattle.edge_order.proofs.Rows.{ranked-length}
use Rattle.edge_order.proofs.order.Order.len.Goals as goal

pub overflow_cast-result : goal.overflow_cast-result
overflow_cast-result c = omega (arith, c.self.invariant.few, c.self.inside.edges.ok)

pub returns-clause-value : goal.returns-clause-value
returns-clause-value c = rw (← c.self.view_is) (omega (arith, ranked-length (graph_in c.self.inside), c.self.inside.edges.ok))

pub returns-clause-edges : goal.returns-clause-edges
returns-clause-edges c = omega (arith, c.self.invariant.few, c.self.inside.edges.ok)

pub returns-clause-graph : goal.returns-clause-graph
returns-clause-graph c = (graph_in c.self.inside, sym c.self.view_is)
