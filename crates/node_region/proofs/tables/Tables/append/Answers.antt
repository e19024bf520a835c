use Rattle.std.proofs.Common.{arith}
use Rattle.node_region.proofs.Rows.{slots-many, places-many, row-append, both-count}
use Rattle.node_region.proofs.tables.Tables.append.Goals as goal

pub put_behind-requires-2 : goal.put_behind-requires-2
put_behind-requires-2 c =
    let mine = slots-many c.args.self.first c.args.self.firsts.items c.args.self.slots.items c.args.self.places.items c.args.self.in_row in
    let others = slots-many c.args.other.first c.args.other.firsts.items c.args.other.slots.items c.args.other.places.items c.args.other.in_row in
    omega (arith, mine, others, c.requires.room)

pub put_behind-requires-3 : goal.put_behind-requires-3
put_behind-requires-3 c =
    let mine = places-many c.args.self.first c.args.self.firsts.items c.args.self.slots.items c.args.self.places.items c.args.self.in_row in
    let others = places-many c.args.other.first c.args.other.firsts.items c.args.other.slots.items c.args.other.places.items c.args.other.in_row in
    omega (arith, mine, others, c.requires.room)

pub invariant_of-result-clause-in_row : goal.invariant_of-result-clause-in_row
invariant_of-result-clause-in_row c =
    rw (c.put_behind.ensures.items, c.put_behind-2.ensures.items, c.put_behind-3.ensures.items)
    (row-append c.args.self.first c.args.self.firsts.items c.args.self.slots.items c.args.self.places.items c.args.self.in_row
    c.args.self.count c.args.self.counted _ _ _ (rw c.requires.next at c.args.other.in_row))

pub invariant_of-result-clause-counted : goal.invariant_of-result-clause-counted
invariant_of-result-clause-counted c =
    let sum = both-count c.args.self.slots.items c.args.other.slots.items _ c.put_behind-2.ensures.items in
    omega (arith, sum, c.args.self.counted, c.args.other.counted)
