use Rattle.std.proofs.Common.{◌∙◌, ap, ℕ, List, length, false, get_or}
use Rattle.std.proofs.lemmas.List.FromFn.{length-range_with_len}
use Rattle.partition_tree.specs.TreeLists.{nodes}
use Rattle.partition_tree.proofs.WellFormed.{well_formed-climbs}
use Rattle.watershed_cut.proofs.HolderStops.{nearest-of_stops}
use Rattle.watershed_cut.proofs.nearest.send_nearest_down.Goals as goal

pub send_down-requires-clause-one_each : goal.send_down-requires-clause-one_each
send_down-requires-clause-one_each c = ap (λ (xs : List ℕ). length xs) c.requires.own ∙ length-range_with_len 0 (nodes c.args.tree.now)

pub returns : goal.returns
returns c =
    let t = c.args.tree.now in
    nearest-of_stops t (well_formed-climbs t c.send_down.ensures.well_formed) c.args.minima.now.vertices c.args.holds.now c.args.near.now _ c.requires.holds c.requires.own
    (c.send_down.ensures.values (λ j. get_or c.args.holds.now j false) (λ i b h answer. answer))
