use Rattle.std.proofs.Common.{◌<◌, ◌≤◌, ℕ, List, sym, ◌∙◌, ap, arith, length}
use Rattle.extinction.specs.Values.{attribute_values}
use Rattle.extinction.specs.NodeSurvivors.{value_after}
use Rattle.extinction.proofs.OneGraph.{one-areas, persistences-graph}
use Rattle.extinction.proofs.NodeSurvivorLemmas.{survivors-length, at-survivors, persist-more, persist-all}
use Rattle.extinction.proofs.persist.by_survivors.Goals as goal

pub value-requires-clause-nodes : goal.value-requires-clause-nodes
value-requires-clause-nodes c =
    ap length c.deref-in-loop-i.ensures.value
    ∙ survivors-length c.args.tree.now c.args.minima.now (attribute_values c.args.kind c.args.attributes.now) c.in_ok-survivors.survivors.pairs.items c.in_ok-survivors.survivors.labels.items c.in_ok-survivors.ensures
    ∙ sym (one-areas c.args.tree.now c.args.attributes.now c.args.minima.now c.requires)

pub value-requires-clause-first : goal.value-requires-clause-first
value-requires-clause-first c =
    let long = ap length c.deref-in-loop-i.ensures.value
    ∙ survivors-length c.args.tree.now c.args.minima.now (attribute_values c.args.kind c.args.attributes.now) c.in_ok-survivors.survivors.pairs.items c.in_ok-survivors.survivors.labels.items c.in_ok-survivors.ensures in
    omega (arith, long, c.children-a.ensures.first_less, c.loop-i-test.true, c.nodes-nodes.ensures.value)

pub value-requires-clause-second : goal.value-requires-clause-second
value-requires-clause-second c =
    let long = ap length c.deref-in-loop-i.ensures.value
    ∙ survivors-length c.args.tree.now c.args.minima.now (attribute_values c.args.kind c.args.attributes.now) c.in_ok-survivors.survivors.pairs.items c.in_ok-survivors.survivors.labels.items c.in_ok-survivors.ensures in
    omega (arith, long, c.children-a.ensures.second_less, c.loop-i-test.true, c.nodes-nodes.ensures.value)

pub loop-i-preserved : goal.loop-i-preserved
loop-i-preserved c =
    let t = c.args.tree.now in
    let m = c.args.minima.now in
    let values = attribute_values c.args.kind c.args.attributes.now in
    let s = c.in_ok-survivors.survivors in
    let i = c.loop-i.i in
    let a = c.children-a.result.0 in
    let b = c.children-a.result.1 in
    let inner : t.leaves ≤ i = omega (arith, c.leaves-leaves.ensures.value, c.loop-i.auto.i) in
    let hi : i < length t.parents = omega (arith, c.loop-i-test.true, c.nodes-nodes.ensures.value) in
    persist-more t m values s.labels.items c.loop-i.values.items c.push.new.self.items c.nodes-nodes.ensures.well_formed i a b c.value.result c.leaves-leaves.result c.leaves-leaves.ensures.value inner
    (at-survivors t m values s.labels.items s.pairs.items c.deref.result.now i a b c.in_ok-survivors.ensures c.deref.ensures.value inner hi c.children-a.ensures.first c.children-a.ensures.second c.children-a.ensures.first_less c.children-a.ensures.second_less)
    (c.value.ensures ∙ ap (λ (xs : List ℕ). value_after values xs a b) c.deref-in-loop-i.ensures.value) c.loop-i.invariant c.in_ok-push.ensures.items

pub returns : goal.returns
returns c = λ g o.
    persist-all c.args.tree.now c.args.minima.now (attribute_values c.args.kind c.args.attributes.now) c.loop-i.values.items c.nodes-nodes.ensures.well_formed c.loop-i.i c.leaves-leaves.result c.leaves-leaves.ensures.value (omega arith) c.loop-i.invariant
    ∙ persistences-graph g c.args.tree.now c.args.attributes.now c.args.minima.now c.args.kind o
