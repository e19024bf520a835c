use Rattle.std.proofs.Common.{◌≡◌, ◌+◌, ◌-◌, ◌/◌, arith}
use Rattle.node_region.proofs.Rows.{row-first, slots-many, some-tables, start-all, places-all}
use Rattle.node_region.proofs.tables.Tables.search.Goals as goal

pub loop-high-init : goal.loop-high-init
loop-high-init c =
    let many = slots-many c.args.self.now.first c.args.self.now.firsts.items c.args.self.now.slots.items c.args.self.now.places.items c.args.self.now.in_row in
    let last = start-all c.args.self.now.slots.items c.len-high.result (omega (arith, many, c.len-high.ensures)) in
    let some = some-tables c.args.self.now.slots.items (omega (arith, c.args.self.now.counted, c.args.self.now.some_number)) in
    (omega (arith, some, many, c.len-high.ensures), omega (arith, c.len-high.ensures), omega (arith, c.requires.from), omega (arith, last, c.requires.below, c.args.self.now.counted))

pub loop-high-preserved-then-index-id : goal.loop-high-preserved-then-index-id
loop-high-preserved-then-index-id c =
    let i = c.loop-high.invariant in
    let found = row-first c.args.self.now.first c.args.self.now.firsts.items c.args.self.now.slots.items c.args.self.now.places.items c.args.self.now.in_row (c.loop-high.low + (c.loop-high.high - c.loop-high.low) / 2) c.index.result.now (omega (arith, i, c.loop-high-test.true)) c.index.ensures in
    (omega (arith, c.loop-high-test.true), i.1, omega (arith, found, c.if-index-id.true), i.3)

pub loop-high-preserved : goal.loop-high-preserved
loop-high-preserved c =
    let i = c.loop-high.invariant in
    let found = row-first c.args.self.now.first c.args.self.now.firsts.items c.args.self.now.slots.items c.args.self.now.places.items c.args.self.now.in_row (c.loop-high.low + (c.loop-high.high - c.loop-high.low) / 2) c.index.result.now (omega (arith, i, c.loop-high-test.true)) c.index.ensures in
    (omega (arith, c.loop-high-test.true), omega (arith, i, c.loop-high-test.true), i.2, omega (arith, found, c.if-index-id.false))

pub overflow_sub-result : goal.overflow_sub-result
overflow_sub-result c =
    let found = row-first c.args.self.now.first c.args.self.now.firsts.items c.args.self.now.slots.items c.args.self.now.places.items c.args.self.now.in_row _ c.index-2.result.now (omega (arith, c.loop-high.invariant)) c.index-2.ensures in
    omega (arith, found, c.loop-high.invariant)

pub returns-clause-at : goal.returns-clause-at
returns-clause-at c =
    let i = c.loop-high.invariant in
    let found = row-first c.args.self.now.first c.args.self.now.firsts.items c.args.self.now.slots.items c.args.self.now.places.items c.args.self.now.in_row _ c.index-2.result.now (omega (arith, i)) c.index-2.ensures in
    let next : c.loop-high.high ≡ c.loop-high.low + 1 = omega (arith, i, c.loop-high-test.false) in
    record { chunk = omega (arith, i, slots-many c.args.self.now.first c.args.self.now.firsts.items c.args.self.now.slots.items c.args.self.now.places.items c.args.self.now.in_row); index = rw (← next) (omega (arith, found, i)) }

pub returns-clause-number : goal.returns-clause-number
returns-clause-number c =
    let found = row-first c.args.self.now.first c.args.self.now.firsts.items c.args.self.now.slots.items c.args.self.now.places.items c.args.self.now.in_row _ c.index-2.result.now (omega (arith, c.loop-high.invariant)) c.index-2.ensures in
    omega (arith, found, c.loop-high.invariant)

pub returns-clause-within : goal.returns-clause-within
returns-clause-within c =
    let found = row-first c.args.self.now.first c.args.self.now.firsts.items c.args.self.now.slots.items c.args.self.now.places.items c.args.self.now.in_row _ c.index-2.result.now (omega (arith, c.loop-high.invariant)) c.index-2.ensures in
    omega (arith, found, c.loop-high.invariant, c.requires.below, c.args.self.now.counted)

pub returns-clause-within_places : goal.returns-clause-within_places
returns-clause-within_places c =
    let found = row-first c.args.self.now.first c.args.self.now.firsts.items c.args.self.now.slots.items c.args.self.now.places.items c.args.self.now.in_row _ c.index-2.result.now (omega (arith, c.loop-high.invariant)) c.index-2.ensures in
    let long = places-all c.args.self.now.first c.args.self.now.firsts.items c.args.self.now.slots.items c.args.self.now.places.items c.args.self.now.in_row in
    omega (arith, found, long, c.loop-high.invariant, c.requires.below, c.args.self.now.counted)
