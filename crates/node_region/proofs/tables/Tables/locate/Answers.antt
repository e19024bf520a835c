use Rattle.std.proofs.Common.{◌≡◌, ◌+◌, length, arith}
use Rattle.node_region.proofs.Rows.{row-first, slots-many, start-all, places-all, at-located}
use Rattle.node_region.proofs.tables.Tables.locate.Goals as goal

pub returns-then-len-eq1-clause-at : goal.returns-then-len-eq1-clause-at
returns-then-len-eq1-clause-at c =
    let many = slots-many c.args.self.now.first c.args.self.now.firsts.items c.args.self.now.slots.items c.args.self.now.places.items c.args.self.now.in_row in
    let one : 0 + 1 ≡ length c.args.self.now.slots.items = omega (arith, many, c.if-len-eq1.true, c.len.ensures) in
    record { chunk = omega (arith, one); index = omega (arith, start-all c.args.self.now.slots.items (0 + 1) one, c.requires.below, c.requires.from, c.args.self.now.counted) }

pub returns-then-len-eq1-clause-within_places : goal.returns-then-len-eq1-clause-within_places
returns-then-len-eq1-clause-within_places c =
    let long = places-all c.args.self.now.first c.args.self.now.firsts.items c.args.self.now.slots.items c.args.self.now.places.items c.args.self.now.in_row in
    omega (arith, long, c.requires.below, c.args.self.now.counted)

pub index-requires : goal.index-requires
index-requires c =
    let many = slots-many c.args.self.now.first c.args.self.now.firsts.items c.args.self.now.slots.items c.args.self.now.places.items c.args.self.now.in_row in
    omega (arith, many, c.len-2.ensures, c.if-guess-len.false, c.args.self.now.slots.ok)

pub returns-clause-at : goal.returns-clause-at
returns-clause-at c =
    let many = slots-many c.args.self.now.first c.args.self.now.firsts.items c.args.self.now.slots.items c.args.self.now.places.items c.args.self.now.in_row in
    at-located c.args.self.now.slots.items _ (omega (arith, many, c.len-2.ensures, c.if-guess-len.false)) c.index.result.now c.index.ensures
    (omega (arith, c.if-id-first-2.false, c.len-else-id-first.ensures, c.index.result.now.ok))

pub returns-clause-number : goal.returns-clause-number
returns-clause-number c =
    let found = row-first c.args.self.now.first c.args.self.now.firsts.items c.args.self.now.slots.items c.args.self.now.places.items c.args.self.now.in_row _ c.index-first.result.now (omega (arith, c.len-2.ensures, c.if-guess-len.false)) c.index-first.ensures in
    omega (arith, found, c.index-first.ensures, c.if-id-first.false)

pub returns-clause-within : goal.returns-clause-within
returns-clause-within c =
    let found = row-first c.args.self.now.first c.args.self.now.firsts.items c.args.self.now.slots.items c.args.self.now.places.items c.args.self.now.in_row _ c.index-first.result.now (omega (arith, c.len-2.ensures, c.if-guess-len.false)) c.index-first.ensures in
    omega (arith, found, c.index-first.ensures, c.if-id-first.false, c.requires.below, c.args.self.now.counted)

pub returns-clause-within_places : goal.returns-clause-within_places
returns-clause-within_places c =
    let found = row-first c.args.self.now.first c.args.self.now.firsts.items c.args.self.now.slots.items c.args.self.now.places.items c.args.self.now.in_row _ c.index-first.result.now (omega (arith, c.len-2.ensures, c.if-guess-len.false)) c.index-first.ensures in
    let long = places-all c.args.self.now.first c.args.self.now.firsts.items c.args.self.now.slots.items c.args.self.now.places.items c.args.self.now.in_row in
    omega (arith, found, c.index-first.ensures, long, c.if-id-first.false, c.requires.below, c.args.self.now.counted)
