use Rattle.std.proofs.Common.{arith}
use Rattle.edge_order.specs.OrderFields.{graph_in}
use Rattle.edge_order.proofs.Rows.{ranked-length, number-below, row-value, row-ends, row-next}
use Rattle.edge_order.proofs.order.Order.at.Goals as goal

pub index-requires : goal.index-requires
index-requires c =
    let within = rw (← c.self.view_is, ranked-length (graph_in c.self.inside)) at c.requires in
    omega (arith, c.number.ensures, c.self.inside.edges.ok, number-below c.self.inside c.self.invariant c.args.k _ within c.index-key.ensures)

pub returns-clause-value : goal.returns-clause-value
returns-clause-value c =
    let within = rw (← c.self.view_is, ranked-length (graph_in c.self.inside)) at c.requires in
    rw (← c.self.view_is) (row-value c.self.inside c.self.invariant c.args.k _ _ _ _ within c.index-key.ensures c.number.ensures c.weight.ensures c.index.ensures)

pub returns-clause-ends : goal.returns-clause-ends
returns-clause-ends c =
    let within = rw (← c.self.view_is, ranked-length (graph_in c.self.inside)) at c.requires in
    let number = rw (← c.number.ensures) at (number-below c.self.inside c.self.invariant c.args.k _ within c.index-key.ensures) in
    rw (← c.self.view_is) (row-ends c.self.inside c.self.invariant _ _ _ number c.index.ensures)

pub returns-clause-next : goal.returns-clause-next
returns-clause-next c =
    let within = rw (← c.self.view_is, ranked-length (graph_in c.self.inside)) at c.requires in
    rw (← c.self.view_is) (row-next c.self.inside c.args.k _ within
    (row-value c.self.inside c.self.invariant c.args.k _ _ _ _ within c.index-key.ensures c.number.ensures c.weight.ensures c.index.ensures))
