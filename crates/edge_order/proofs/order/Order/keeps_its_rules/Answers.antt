use Rattle.std.proofs.Common.{sym, arith}
use Rattle.edge_order.specs.OrderFields.{graph_in}
use Rattle.edge_order.proofs.Rows.{ranked-length}
use Rattle.edge_order.proofs.order.Order.keeps_its_rules.Goals as goal

pub returns-clause-graph : goal.returns-clause-graph
returns-clause-graph c = (graph_in c.self.inside, sym c.self.view_is)

pub returns-clause-edges : goal.returns-clause-edges
returns-clause-edges c = rw (← c.self.view_is) (omega (arith, ranked-length (graph_in c.self.inside), c.self.invariant.few))
