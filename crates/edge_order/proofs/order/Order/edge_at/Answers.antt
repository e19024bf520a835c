use Rattle.std.proofs.Common.{◌∙◌, arith}
use Rattle.edge_order.specs.OrderFields.{graph_in}
use Rattle.edge_order.proofs.Rows.{ranked-length, number-below, number-value}
use Rattle.edge_order.proofs.order.Order.edge_at.Goals as goal

pub returns-clause-value : goal.returns-clause-value
returns-clause-value c =
    let within = rw (← c.self.view_is, ranked-length (graph_in c.self.inside)) at c.requires in
    c.number.ensures ∙ rw (← c.self.view_is) (number-value c.self.inside c.self.invariant c.args.k _ within c.index.ensures)

pub returns-clause-below : goal.returns-clause-below
returns-clause-below c =
    let within = rw (← c.self.view_is, ranked-length (graph_in c.self.inside)) at c.requires in
    rw (← c.self.view_is) (omega (arith, c.number.ensures, ranked-length (graph_in c.self.inside), number-below c.self.inside c.self.invariant c.args.k _ within c.index.ensures))
