use Rattle.std.proofs.Common.{refl}
use Rattle.node_region.proofs.Appends.{fresh-seen}
use Rattle.node_region.proofs.region.Region.fresh.Goals as goal

pub invariant_of-result : goal.invariant_of-result
invariant_of-result c =
    let r = c.requires in
    let t = c.in_ok-tables.ensures in
    (fresh-seen c.args.first c.args.count c.args.room r.some_number r.few_numbers r.range r.some_chunk r.few_chunks
    c.in_ok-tables.tables t.first t.slots t.places t.one t.capacity _ refl refl refl).1

pub returns : goal.returns
returns c =
    let r = c.requires in
    let t = c.in_ok-tables.ensures in
    (fresh-seen c.args.first c.args.count c.args.room r.some_number r.few_numbers r.range r.some_chunk r.few_chunks
    c.in_ok-tables.tables t.first t.slots t.places t.one t.capacity _ refl refl refl).0
