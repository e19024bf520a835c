use Rattle.std.proofs.Common.{◌∙◌, ap, ℕ, List, length, false}
use Rattle.std.proofs.lemmas.List.FromFn.{length-range_with_len}
use Rattle.partition_tree.specs.TreeLists.{nodes}
use Rattle.partition_tree.proofs.WellFormed.{well_formed-climbs}
use Rattle.saliency.proofs.RootLemmas.{roots-of_stops}
use Rattle.saliency.proofs.roots.send_roots_down.Goals as goal

pub send_down-requires-clause-one_each : goal.send_down-requires-clause-one_each
send_down-requires-clause-one_each c = ap (λ (xs : List ℕ). length xs) c.requires ∙ length-range_with_len 0 (nodes c.args.tree.now)

pub returns : goal.returns
returns c =
    let t = c.args.tree.now in
    roots-of_stops t (well_formed-climbs t c.send_down.ensures.well_formed) c.args.roots.now _ c.requires (c.send_down.ensures.values (λ i. false) (λ i b h answer. answer))
