use Rattle.std.proofs.Common.{◌<◌, length, ap, arith}
use Rattle.edge_order.specs.OrderFields.{graph_in}
use Rattle.edge_order.proofs.Rows.{ranked-length, keys-length, key-found, found-number, rank-only}
use Rattle.edge_order.proofs.order.Order.rank_of.Goals as goal

pub index-requires : goal.index-requires
index-requires c =
    let within = rw (← c.self.view_is, ranked-length (graph_in c.self.inside)) at c.requires in
    omega (arith, c.self.inside.edges.ok, within)

pub overflow_cast-result : goal.overflow_cast-result
overflow_cast-result c = omega (arith, c.in-Ok.ensures.bound, c.deref.ensures.len, c.self.inside.keys.ok, c.self.invariant.few, keys-length c.self.inside c.self.invariant)

pub unreachable-requires : goal.unreachable-requires
unreachable-requires c =
    let within = rw (← c.self.view_is, ranked-length (graph_in c.self.inside)) at c.requires in
    let missed = rw c.deref.ensures.value at c.in-Err.ensures.position in
    key-found c.self.inside c.self.invariant c.args.e c.in-Err.field-0 _ c.new-key.result within c.index.ensures c.new-key.ensures missed

pub returns-clause-below : goal.returns-clause-below
returns-clause-below c =
    rw (← c.self.view_is) (omega (arith, ranked-length (graph_in c.self.inside), c.in-Ok.ensures.bound, ap length c.deref.ensures.value, keys-length c.self.inside c.self.invariant))

pub returns-clause-value : goal.returns-clause-value
returns-clause-value c =
    let within : c.in-Ok.rank < length c.self.inside.edges.items =
    omega (arith, c.in-Ok.ensures.bound, ap length c.deref.ensures.value, keys-length c.self.inside c.self.invariant) in
    let found = rw c.deref.ensures.value at c.in-Ok.ensures.ok in
    rw (← c.self.view_is) (found-number c.self.inside c.self.invariant c.args.e _ c.in-Ok.rank c.new-key.result within c.new-key.ensures found)

pub returns-clause-only : goal.returns-clause-only
returns-clause-only c =
    let within : c.in-Ok.rank < length c.self.inside.edges.items =
    omega (arith, c.in-Ok.ensures.bound, ap length c.deref.ensures.value, keys-length c.self.inside c.self.invariant) in
    let found = rw c.deref.ensures.value at c.in-Ok.ensures.ok in
    let number = found-number c.self.inside c.self.invariant c.args.e _ c.in-Ok.rank c.new-key.result within c.new-key.ensures found in
    rw (← c.self.view_is) (λ k below same. rank-only c.self.inside c.args.e c.in-Ok.rank k within (omega (arith, below, ranked-length (graph_in c.self.inside))) number same)
