use Rattle.std.proofs.Common.{arith, ◌∙◌, ap, get_or}
use Rattle.node_region.specs.Tables.{entries_of}
use Rattle.node_region.proofs.Rows.{at-within, entry-read, place-at, place-number}
use Rattle.node_region.proofs.tables.Tables.place.Goals as goal

pub index-requires : goal.index-requires
index-requires c =
    let there = place-at c.args.self.now.first c.args.self.now.firsts.items c.args.self.now.slots.items c.args.self.now.places.items c.args.self.now.in_row c.args.at c.requires in
    omega (arith, there.chunk, c.args.self.now.places.ok)

pub index-requires-2 : goal.index-requires-2
index-requires-2 c =
    let there = place-at c.args.self.now.first c.args.self.now.firsts.items c.args.self.now.slots.items c.args.self.now.places.items c.args.self.now.in_row c.args.at c.requires in
    omega (arith, at-within c.args.self.now.places.items c.args.at there c.index.result.now c.index.ensures, c.index.result.now.ok)

pub returns : goal.returns
returns c =
    let there = place-at c.args.self.now.first c.args.self.now.firsts.items c.args.self.now.slots.items c.args.self.now.places.items c.args.self.now.in_row c.args.at c.requires in
    entry-read c.args.self.now.places.items c.args.at there c.index.result.now c.index-2.result.now c.index.ensures c.index-2.ensures
    ∙ ap (λ n. get_or (entries_of c.args.self.now.places.items) n c.index-2.result.now) (place-number c.args.self.now.first c.args.self.now.firsts.items c.args.self.now.slots.items c.args.self.now.places.items c.args.self.now.in_row c.args.at)
