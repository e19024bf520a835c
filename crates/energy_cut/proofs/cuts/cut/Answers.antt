use Rattle.std.proofs.Common.{ℕ, ◌<◌, ◌≤◌, All, sym, subst, List, length}
use Rattle.energy_cut.proofs.CutOfLists.{AreChosen, keys-fit, made-chosen, made-regions, made-cut}
use Rattle.energy_cut.proofs.cuts.cut.Goals as goal

pub chosen-requires : goal.chosen-requires
chosen-requires c =
    keys-fit c.args.tree.now c.args.energies.now c.in_ok-tops.tops.items c.deref.result.now c.leaves.result c.nodes.result
    c.in_ok-tops.ensures.well_formed c.in_ok-tops.ensures.tops c.deref.ensures.value c.leaves.ensures.value c.nodes.ensures.value

pub total-sum-requires-clause-few : goal.total-sum-requires-clause-few
total-sum-requires-clause-few c =
    subst (λ (xs : List ℕ). length xs ≤ 2097151) (sym c.deref-2.ensures.value)
    (made-chosen c.args.tree.now c.args.energies.now c.in_ok-tops.tops.items c.deref.result.now c.leaves.result c.nodes.result c.in_ok-nodes.nodes.items
    c.in_ok-tops.ensures.well_formed c.in_ok-tops.ensures.tops c.deref.ensures.value c.leaves.ensures.value c.nodes.ensures.value c.requires.one_each c.in_ok-nodes.ensures).few

pub total-sum-requires-clause-within : goal.total-sum-requires-clause-within
total-sum-requires-clause-within c =
    subst (λ (xs : List ℕ). All (λ i. i < length c.args.energies.now) xs) (sym c.deref-2.ensures.value)
    (made-chosen c.args.tree.now c.args.energies.now c.in_ok-tops.tops.items c.deref.result.now c.leaves.result c.nodes.result c.in_ok-nodes.nodes.items
    c.in_ok-tops.ensures.well_formed c.in_ok-tops.ensures.tops c.deref.ensures.value c.leaves.ensures.value c.nodes.ensures.value c.requires.one_each c.in_ok-nodes.ensures).within

pub number_keys-requires-clause-below : goal.number_keys-requires-clause-below
number_keys-requires-clause-below c =
    keys-fit c.args.tree.now c.args.energies.now c.in_ok-tops.tops.items c.deref.result.now c.leaves.result c.nodes-2.result
    c.in_ok-tops.ensures.well_formed c.in_ok-tops.ensures.tops c.deref.ensures.value c.leaves.ensures.value c.nodes-2.ensures.value

pub new-labels-requires : goal.new-labels-requires
new-labels-requires c =
    (made-regions c.args.tree.now c.args.energies.now c.in_ok-tops.tops.items c.deref.result.now c.leaves.result c.nodes.result c.in_ok-nodes.nodes.items c.in_ok-numbering.numbering.labels.items c.in_ok-numbering.numbering.count
    c.in_ok-tops.ensures.well_formed c.in_ok-tops.ensures.tops c.deref.ensures.value c.leaves.ensures.value c.nodes.ensures.value c.in_ok-nodes.ensures c.in_ok-numbering.ensures.labels c.in_ok-numbering.ensures.count).fit

pub returns-clause-value : goal.returns-clause-value
returns-clause-value c =
    let t = c.args.tree.now in
    let e = c.args.energies.now in
    let chosen : AreChosen t e c.in_ok-nodes.nodes.items =
    made-chosen t e c.in_ok-tops.tops.items c.deref.result.now c.leaves.result c.nodes.result c.in_ok-nodes.nodes.items
    c.in_ok-tops.ensures.well_formed c.in_ok-tops.ensures.tops c.deref.ensures.value c.leaves.ensures.value c.nodes.ensures.value c.requires.one_each c.in_ok-nodes.ensures in
    let regions = made-regions t e c.in_ok-tops.tops.items c.deref.result.now c.leaves.result c.nodes.result c.in_ok-nodes.nodes.items c.in_ok-numbering.numbering.labels.items c.in_ok-numbering.numbering.count
    c.in_ok-tops.ensures.well_formed c.in_ok-tops.ensures.tops c.deref.ensures.value c.leaves.ensures.value c.nodes.ensures.value c.in_ok-nodes.ensures c.in_ok-numbering.ensures.labels c.in_ok-numbering.ensures.count in
    made-cut t e c.in_ok-nodes.nodes.items c.deref-2.result.now _ c.new-labels.result c.total-sum.result c.in_ok-tops.ensures.well_formed chosen regions c.new-labels.ensures c.total-sum.ensures.value c.deref-2.ensures.value

pub returns-clause-least : goal.returns-clause-least
returns-clause-least c =
    (made-chosen c.args.tree.now c.args.energies.now c.in_ok-tops.tops.items c.deref.result.now c.leaves.result c.nodes.result c.in_ok-nodes.nodes.items
    c.in_ok-tops.ensures.well_formed c.in_ok-tops.ensures.tops c.deref.ensures.value c.leaves.ensures.value c.nodes.ensures.value c.requires.one_each c.in_ok-nodes.ensures).least

pub returns-clause-nodes : goal.returns-clause-nodes
returns-clause-nodes c =
    (made-chosen c.args.tree.now c.args.energies.now c.in_ok-tops.tops.items c.deref.result.now c.leaves.result c.nodes.result c.in_ok-nodes.nodes.items
    c.in_ok-tops.ensures.well_formed c.in_ok-tops.ensures.tops c.deref.ensures.value c.leaves.ensures.value c.nodes.ensures.value c.requires.one_each c.in_ok-nodes.ensures).within
