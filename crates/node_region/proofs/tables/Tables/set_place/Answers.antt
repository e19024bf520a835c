use Rattle.std.proofs.Common.{refl, ap, ◌∙◌, set, arith}
use Rattle.std.proofs.lemmas.List.{length-set}
use Rattle.node_region.specs.Tables.{entries_of}
use Rattle.node_region.proofs.Rows.{at-within, entry-written, lengths-written, place-at, place-number, row-kept}
use Rattle.node_region.proofs.tables.Tables.set_place.Goals as goal

pub index_mut-table-requires : goal.index_mut-table-requires
index_mut-table-requires c =
    let there = place-at c.args.self.now.first c.args.self.now.firsts.items c.args.self.now.slots.items c.args.self.now.places.items c.args.self.now.in_row c.args.at c.requires in
    omega (arith, there.chunk, c.args.self.now.places.ok)

pub index_mut-requires : goal.index_mut-requires
index_mut-requires c =
    let there = place-at c.args.self.now.first c.args.self.now.firsts.items c.args.self.now.slots.items c.args.self.now.places.items c.args.self.now.in_row c.args.at c.requires in
    omega (arith, at-within c.args.self.now.places.items c.args.at there c.index_mut-table.result.now c.index_mut-table.ensures.value, c.index_mut-table.result.now.ok)

pub returns-clause-places : goal.returns-clause-places
returns-clause-places c =
    let there = place-at c.args.self.now.first c.args.self.now.firsts.items c.args.self.now.slots.items c.args.self.now.places.items c.args.self.now.in_row c.args.at c.requires in
    entry-written c.args.self.now.places.items c.args.at there c.index_mut-table.result.now _ c.args.place c.index_mut-table.ensures.value refl
    ∙ ap (λ n. set (entries_of c.args.self.now.places.items) n c.args.place) (place-number c.args.self.now.first c.args.self.now.firsts.items c.args.self.now.slots.items c.args.self.now.places.items c.args.self.now.in_row c.args.at)

pub invariant_of-self-clause-in_row : goal.invariant_of-self-clause-in_row
invariant_of-self-clause-in_row c =
    let long = length-set c.index_mut-table.result.now.items c.args.at.index c.args.place in
    row-kept c.args.self.now.first c.args.self.now.firsts.items c.args.self.now.slots.items c.args.self.now.places.items c.args.self.now.in_row _ _ refl
    (lengths-written c.args.self.now.places.items c.args.at.chunk c.index_mut-table.result.now _ c.index_mut-table.ensures.value long)
