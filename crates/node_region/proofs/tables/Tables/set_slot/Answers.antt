use Rattle.std.proofs.Common.{refl, sym, ap, ◌∙◌, length}
use Rattle.std.proofs.lemmas.List.{length-set}
use Rattle.node_region.specs.Tables.{entries_of, entry_number}
use Rattle.node_region.proofs.Rows.{entry-written, lengths-written, row-kept}
use Rattle.node_region.proofs.tables.Tables.set_slot.Goals as goal

pub returns-clause-slots : goal.returns-clause-slots
returns-clause-slots c = entry-written c.args.self.now.slots.items c.args.at c.requires c.index_mut-table.result.now _ c.args.slot c.index_mut-table.ensures.value refl

pub invariant_of-self-clause-in_row : goal.invariant_of-self-clause-in_row
invariant_of-self-clause-in_row c =
    let long = length-set c.index_mut-table.result.now.items c.args.at.index c.args.slot in
    row-kept c.args.self.now.first c.args.self.now.firsts.items c.args.self.now.slots.items c.args.self.now.places.items c.args.self.now.in_row _ _
    (lengths-written c.args.self.now.slots.items c.args.at.chunk c.index_mut-table.result.now _ c.index_mut-table.ensures.value long) refl

pub invariant_of-self-clause-counted : goal.invariant_of-self-clause-counted
invariant_of-self-clause-counted c =
    let written = entry-written c.args.self.now.slots.items c.args.at c.requires c.index_mut-table.result.now _ c.args.slot c.index_mut-table.ensures.value refl in
    c.args.self.now.counted ∙ sym (ap length written ∙ length-set (entries_of c.args.self.now.slots.items) (entry_number c.args.self.now.slots.items c.args.at) c.args.slot)
