use Rattle.std.proofs.Common.{◌∙◌, ap}
use Rattle.hg_base.specs.Labels.{Labelling}
use Rattle.watershed_cut.proofs.WatershedLemmas.{minima-lengths, watershed-found}
use Rattle.watershed_cut.proofs.find.by_tree.Goals as goal

pub nearest_holders-requires : goal.nearest_holders-requires
nearest_holders-requires c = (minima-lengths c.args.graph.now c.args.tree.now c.args.minima.now c.requires.tree c.requires.minima).0

pub chosen_edges-requires-clause-minima : goal.chosen_edges-requires-clause-minima
chosen_edges-requires-clause-minima c = (minima-lengths c.args.graph.now c.args.tree.now c.args.minima.now c.requires.tree c.requires.minima).1

pub new-labels-requires : goal.new-labels-requires
new-labels-requires c =
    (watershed-found c.args.graph.now c.args.tree.now c.args.minima.now c.in_ok-near.near.items c.deref.result.now c.deref-3.result.now c.in_ok-labels.labels.items c.deref-4.result.now c.in_ok-forest.forest.items c.in_ok-cut.cut.items
    c.in_ok-chosen.chosen.items c.deref-2.result.now c.count.result c.requires.tree c.requires.minima c.in_ok-near.ensures.well_formed c.in_ok-near.ensures.near c.deref.ensures.value c.in_ok-chosen.ensures c.deref-2.ensures.value c.in_ok-forest.ensures
    c.deref-3.ensures.value c.in_ok-labels.ensures c.deref-4.ensures.value c.in_ok-cut.ensures.ends c.in_ok-cut.ensures.cut c.count.ensures).fit

pub returns : goal.returns
returns c =
    c.new.ensures ∙ ap (λ (l : Labelling). record { labels = l; cut = c.in_ok-cut.cut.items; forest = c.in_ok-forest.forest.items }) c.new-labels.ensures
    ∙ (watershed-found c.args.graph.now c.args.tree.now c.args.minima.now c.in_ok-near.near.items c.deref.result.now c.deref-3.result.now c.in_ok-labels.labels.items c.deref-4.result.now c.in_ok-forest.forest.items c.in_ok-cut.cut.items
    c.in_ok-chosen.chosen.items c.deref-2.result.now c.count.result c.requires.tree c.requires.minima c.in_ok-near.ensures.well_formed c.in_ok-near.ensures.near c.deref.ensures.value c.in_ok-chosen.ensures c.deref-2.ensures.value c.in_ok-forest.ensures
    c.deref-3.ensures.value c.in_ok-labels.ensures c.deref-4.ensures.value c.in_ok-cut.ensures.ends c.in_ok-cut.ensures.cut c.count.ensures).result
