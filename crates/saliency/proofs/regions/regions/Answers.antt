use Rattle.std.proofs.Common.{◌∙◌}
use Rattle.saliency.proofs.KeyLemmas.{made-keys, made-regions, labels-of_list}
use Rattle.saliency.proofs.regions.regions.Goals as goal

pub number_keys-requires-clause-below : goal.number_keys-requires-clause-below
number_keys-requires-clause-below c =
    made-keys c.args.tree.now c.args.level c.leaves.result c.nodes.result c.in_ok-tops.tops.items c.deref.result.now c.in_ok-keys.keys.items c.deref-2.result.now
    c.in_ok-tops.ensures.well_formed c.in_ok-tops.ensures.tops c.leaves.ensures.value c.deref.ensures.value c.deref-2.ensures.value c.nodes.ensures.value c.in_ok-keys.ensures

pub new-requires : goal.new-requires
new-requires c =
    (made-regions c.args.tree.now c.args.level c.leaves.result c.in_ok-tops.tops.items c.deref.result.now c.in_ok-keys.keys.items c.deref-2.result.now _ _
    c.in_ok-tops.ensures.well_formed c.requires c.in_ok-tops.ensures.tops c.leaves.ensures.value c.deref.ensures.value c.deref-2.ensures.value c.in_ok-keys.ensures
    c.in_ok-numbering.ensures.labels c.in_ok-numbering.ensures.count).fit

pub returns-clause-regions : goal.returns-clause-regions
returns-clause-regions c =
    c.new.ensures ∙ (made-regions c.args.tree.now c.args.level c.leaves.result c.in_ok-tops.tops.items c.deref.result.now c.in_ok-keys.keys.items c.deref-2.result.now _ _
    c.in_ok-tops.ensures.well_formed c.requires c.in_ok-tops.ensures.tops c.leaves.ensures.value c.deref.ensures.value c.deref-2.ensures.value c.in_ok-keys.ensures
    c.in_ok-numbering.ensures.labels c.in_ok-numbering.ensures.count).result

pub returns-clause-components : goal.returns-clause-components
returns-clause-components c =
    let r = made-regions c.args.tree.now c.args.level c.leaves.result c.in_ok-tops.tops.items c.deref.result.now c.in_ok-keys.keys.items c.deref-2.result.now _ _
    c.in_ok-tops.ensures.well_formed c.requires c.in_ok-tops.ensures.tops c.leaves.ensures.value c.deref.ensures.value c.deref-2.ensures.value c.in_ok-keys.ensures
    c.in_ok-numbering.ensures.labels c.in_ok-numbering.ensures.count in
    labels-of_list c.args.tree.now c.args.level c.in_ok-tops.ensures.well_formed r.classes _ (c.new.ensures ∙ r.result)
