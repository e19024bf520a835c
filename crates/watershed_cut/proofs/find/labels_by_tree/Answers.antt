use Rattle.std.proofs.Common.{◌∙◌}
use Rattle.watershed_cut.proofs.WatershedLemmas.{minima-lengths, labels-found}
use Rattle.watershed_cut.proofs.find.labels_by_tree.Goals as goal

pub nearest_holders-requires : goal.nearest_holders-requires
nearest_holders-requires c = (minima-lengths c.args.graph.now c.args.tree.now c.args.minima.now c.requires.tree c.requires.minima).0

pub new-requires : goal.new-requires
new-requires c =
    (labels-found c.args.graph.now c.args.tree.now c.args.minima.now c.in_ok-near.near.items c.deref.result.now c.in_ok-labels.labels.items c.count.result c.keeps_its_rules.ensures.graph
    c.requires.tree c.requires.minima c.in_ok-near.ensures.near c.deref.ensures.value c.in_ok-labels.ensures c.count.ensures).fit

pub returns : goal.returns
returns c =
    c.new.ensures
    ∙ (labels-found c.args.graph.now c.args.tree.now c.args.minima.now c.in_ok-near.near.items c.deref.result.now c.in_ok-labels.labels.items c.count.result c.keeps_its_rules.ensures.graph
    c.requires.tree c.requires.minima c.in_ok-near.ensures.near c.deref.ensures.value c.in_ok-labels.ensures c.count.ensures).result
