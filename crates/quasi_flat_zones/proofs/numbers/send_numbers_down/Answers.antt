use Rattle.std.proofs.Common.{◌∙◌, ap, ℕ, List, length}
use Rattle.std.proofs.lemmas.List.FromFn.{length-map-range_with_len}
use Rattle.tree_laws.specs.Zones.{keeps, zone_number}
use Rattle.partition_tree.specs.TreeLists.{nodes}
use Rattle.partition_tree.proofs.WellFormed.{well_formed-climbs}
use Rattle.quasi_flat_zones.proofs.ZoneNumberLemmas.{nearest-of_stops}
use Rattle.quasi_flat_zones.proofs.numbers.send_numbers_down.Goals as goal

pub send_down-requires-clause-one_each : goal.send_down-requires-clause-one_each
send_down-requires-clause-one_each c = ap (λ (xs : List ℕ). length xs) c.requires.own ∙ length-map-range_with_len (zone_number c.args.tree.now) 0 (nodes c.args.tree.now)

pub returns : goal.returns
returns c =
    let t = c.args.tree.now in
    nearest-of_stops t (well_formed-climbs t c.send_down.ensures.well_formed) c.args.numbers.now _ c.requires.own (c.send_down.ensures.values (keeps t) (λ i b h answer. answer))
