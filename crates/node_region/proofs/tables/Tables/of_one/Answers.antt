use Rattle.std.proofs.Common.{sym, ap, ◌∙◌, length, arith}
use Rattle.node_region.proofs.Rows.{fresh-length, one-entries, one-row}
use Rattle.node_region.proofs.tables.Tables.of_one.Goals as goal

pub invariant_of-result-clause-in_row : goal.invariant_of-result-clause-in_row
invariant_of-result-clause-in_row c =
    one-row c.args.first c.args.count _ _ _ c.in_ok-slots.slots c.in_ok-places.places c.requires.some
    c.in_ok-one_with_room.ensures.items c.in_ok-one_with_room-2.ensures.items c.in_ok-one_with_room-3.ensures.items
    (ap length c.in_ok-slots.ensures ∙ fresh-length c.args.first c.args.count) (omega (arith, c.in_ok-places.ensures.len, c.in_ok-places.places.ok))

pub invariant_of-result-clause-counted : goal.invariant_of-result-clause-counted
invariant_of-result-clause-counted c =
    let same = one-entries _ c.in_ok-slots.slots c.in_ok-one_with_room-2.ensures.items ∙ c.in_ok-slots.ensures in
    sym (ap length same ∙ fresh-length c.args.first c.args.count)
