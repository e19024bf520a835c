use Rattle.std.proofs.Common.{◌∙◌, ap, ℕ, List, length}
use Rattle.std.proofs.lemmas.List.FromFn.{length-range_with_len}
use Rattle.partition_tree.specs.TreeLists.{nodes}
use Rattle.partition_tree.proofs.WellFormed.{well_formed-climbs}
use Rattle.saliency.specs.Tops.{is_last_to}
use Rattle.saliency.proofs.TopLemmas.{tops-of_stops}
use Rattle.saliency.proofs.regions.send_tops_down.Goals as goal

pub send_down-requires-clause-one_each : goal.send_down-requires-clause-one_each
send_down-requires-clause-one_each c = ap (λ (xs : List ℕ). length xs) c.requires.own ∙ length-range_with_len 0 (nodes c.args.tree.now)

pub returns : goal.returns
returns c =
    let t = c.args.tree.now in
    tops-of_stops t (well_formed-climbs t c.send_down.ensures.well_formed) c.args.level c.args.tops.now _ c.requires.own (c.send_down.ensures.values (is_last_to t c.args.level) (λ i b h answer. answer))
