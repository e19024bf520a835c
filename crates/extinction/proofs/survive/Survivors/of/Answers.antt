use Rattle.std.proofs.Common.{◌<◌, ◌≤◌, ℕ, List, refl, sym, ◌∙◌, ap, arith, length, get_or}
use Rattle.extinction.specs.Values.{attribute_values}
use Rattle.extinction.specs.NodeSurvivors.{label_after}
use Rattle.extinction.proofs.OneGraph.{one-two, one-areas}
use Rattle.extinction.proofs.NodeSurvivorLemmas.{IsAtNode, at-node, survivors-first, survivors-more, survivors-all, label-after}
use Rattle.extinction.proofs.survive.Survivors.of.Goals as goal

pub child_pairs-requires : goal.child_pairs-requires
child_pairs-requires c = one-two c.args.tree.now c.args.attributes.now c.args.minima.now c.requires

pub loop-i-init : goal.loop-i-init
loop-i-init c = survivors-first c.args.tree.now c.args.minima.now (attribute_values c.args.kind c.args.attributes.now) c.nodes-i-end.ensures.well_formed c.leaves-i.result c.in_ok-labels.labels.items c.leaves-i.ensures.value c.in_ok-labels.ensures

pub survivor-label-requires-clause-nodes : goal.survivor-label-requires-clause-nodes
survivor-label-requires-clause-nodes c = ap length c.deref-in-loop-i.ensures.value ∙ c.loop-i.invariant.one_each ∙ sym (one-areas c.args.tree.now c.args.attributes.now c.args.minima.now c.requires)

pub loop-i-preserved : goal.loop-i-preserved
loop-i-preserved c =
    let t = c.args.tree.now in
    let m = c.args.minima.now in
    let values = attribute_values c.args.kind c.args.attributes.now in
    let i = c.loop-i.i in
    let labels = c.loop-i.labels.items in
    let a = c.children-a.result.0 in
    let b = c.children-a.result.1 in
    let inner : t.leaves ≤ i = omega (arith, c.leaves-i.ensures.value, c.loop-i.auto.i) in
    let hi : i < length t.parents = omega (arith, c.loop-i-test.true, c.nodes-i-end.ensures.value) in
    let node : IsAtNode t m values labels i a b = at-node t m values labels c.in_ok-pairs.pairs.items c.deref.result.now i a b c.in_ok-pairs.ensures c.deref.ensures.value inner hi c.children-a.ensures.first c.children-a.ensures.second c.children-a.ensures.first_less c.children-a.ensures.second_less c.loop-i.invariant.done in
    survivors-more t m values c.nodes-i-end.ensures.well_formed i c.survivor-label.result labels _ hi c.loop-i.invariant
    (c.survivor-label.ensures ∙ ap (λ (xs : List ℕ). label_after values xs a b (get_or xs i 0)) c.deref-in-loop-i.ensures.value
    ∙ label-after t m values labels c.nodes-i-end.ensures.well_formed i a b (get_or labels i 0) node (c.loop-i.invariant.own i (omega arith) hi)) refl

pub returns : goal.returns
returns c =
    let values = attribute_values c.args.kind c.args.attributes.now in record {
      pairs_are = c.in_ok-pairs.ensures;
      labels_are = survivors-all c.args.tree.now c.args.minima.now values c.loop-i.i c.loop-i.labels.items (omega (arith, c.loop-i-test.false, c.nodes-i-end.ensures.value)) c.loop-i.invariant;
    }
