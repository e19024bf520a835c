use Rattle.std.proofs.Common.{◌≡◌, ◌<◌, ◌≤◌, ◌+◌, ◌-◌, ℕ, List, refl, sym, ◌∙◌, ap, subst, arith, length}
use Rattle.extinction.specs.Values.{attribute_values}
use Rattle.extinction.specs.NodeSurvivors.{AreDeathsFrom, dying_after}
use Rattle.extinction.proofs.OneGraph.{one-areas}
use Rattle.extinction.proofs.NodeSurvivorLemmas.{IsAtNode, IsDeath, survivors-length, at-survivors, survivor-is_label, read-own, dying-none, dying-some, deaths-same, deaths-more, deaths-down}
use Rattle.extinction.proofs.deaths.note_deaths.Goals as goal

pub dying-requires-clause-nodes : goal.dying-requires-clause-nodes
dying-requires-clause-nodes c =
    ap length c.deref-in-loop-i.ensures.value
    ∙ survivors-length c.args.tree.now c.args.minima.now (attribute_values c.args.kind c.args.attributes.now) c.args.survivors.now.pairs.items c.args.survivors.now.labels.items c.requires.survivors
    ∙ sym (one-areas c.args.tree.now c.args.attributes.now c.args.minima.now c.requires.one)

pub dying-requires-clause-first : goal.dying-requires-clause-first
dying-requires-clause-first c =
    let long = ap length c.deref-in-loop-i.ensures.value
    ∙ survivors-length c.args.tree.now c.args.minima.now (attribute_values c.args.kind c.args.attributes.now) c.args.survivors.now.pairs.items c.args.survivors.now.labels.items c.requires.survivors in
    omega (arith, long, c.children-a.ensures.first_less, c.loop-i-test.true, c.loop-i.auto.i, c.nodes-i.ensures.value)

pub dying-requires-clause-second : goal.dying-requires-clause-second
dying-requires-clause-second c =
    let long = ap length c.deref-in-loop-i.ensures.value
    ∙ survivors-length c.args.tree.now c.args.minima.now (attribute_values c.args.kind c.args.attributes.now) c.args.survivors.now.pairs.items c.args.survivors.now.labels.items c.requires.survivors in
    omega (arith, long, c.children-a.ensures.second_less, c.loop-i-test.true, c.loop-i.auto.i, c.nodes-i.ensures.value)

pub loop-i-preserved : goal.loop-i-preserved
loop-i-preserved c =
    let t = c.args.tree.now in
    let m = c.args.minima.now in
    let labels = c.args.survivors.now.labels.items in
    let values = attribute_values c.args.kind c.args.attributes.now in
    let a = c.children-a.result.0 in
    let b = c.children-a.result.1 in
    let hi : c.loop-i.i - 1 < length t.parents = omega (arith, c.loop-i-test.true, c.loop-i.auto.i, c.nodes-i.ensures.value) in
    let inner : t.leaves ≤ c.loop-i.i - 1 = omega (arith, c.loop-i-test.true, c.leaves-i-start.ensures.value) in
    let node : IsAtNode t m values labels (c.loop-i.i - 1) a b = at-survivors t m values labels c.args.survivors.now.pairs.items c.deref.result.now (c.loop-i.i - 1) a b c.requires.survivors c.deref.ensures.value inner hi c.children-a.ensures.first c.children-a.ensures.second c.children-a.ensures.first_less c.children-a.ensures.second_less in
    let next' : c.loop-i.i ≡ c.loop-i.i - 1 + 1 = omega arith in
    let before = subst (λ (k : ℕ). AreDeathsFrom t m values labels k c.loop-i.values) next' c.loop-i.invariant in
    deaths-same t m values labels c.loop-i.values (c.loop-i.i - 1) hi
    (dying-none t m values labels c.nodes-i.ensures.well_formed (c.loop-i.i - 1) a b node (sym (c.dying.ensures ∙ ap (λ (xs : List ℕ). dying_after values xs a b) c.deref-in-loop-i.ensures.value) ∙ c.in_default.is)) before

pub value_by-requires : goal.value_by-requires
value_by-requires c =
    let t = c.args.tree.now in
    let m = c.args.minima.now in
    let labels = c.args.survivors.now.labels.items in
    let values = attribute_values c.args.kind c.args.attributes.now in
    let a = c.children-a.result.0 in
    let b = c.children-a.result.1 in
    let hi : c.loop-i.i - 1 < length t.parents = omega (arith, c.loop-i-test.true, c.loop-i.auto.i, c.nodes-i.ensures.value) in
    let inner : t.leaves ≤ c.loop-i.i - 1 = omega (arith, c.loop-i-test.true, c.leaves-i-start.ensures.value) in
    let dead : IsDeath t m values labels (c.loop-i.i - 1) c.in-Some.child = dying-some t m values labels c.nodes-i.ensures.well_formed (c.loop-i.i - 1) a b c.in-Some.child
    (at-survivors t m values labels c.args.survivors.now.pairs.items c.deref.result.now (c.loop-i.i - 1) a b c.requires.survivors c.deref.ensures.value inner hi c.children-a.ensures.first c.children-a.ensures.second c.children-a.ensures.first_less c.children-a.ensures.second_less)
    (sym (c.dying.ensures ∙ ap (λ (xs : List ℕ). dying_after values xs a b) c.deref-in-loop-i.ensures.value) ∙ c.in-Some.is) in
    let less : c.in-Some.child < c.loop-i.i - 1 = dead.less in
    let long = one-areas t c.args.attributes.now m c.requires.one in
    omega (arith, less, hi, long)

pub bounds-values-label : goal.bounds-values-label
bounds-values-label c =
    let t = c.args.tree.now in
    let m = c.args.minima.now in
    let labels = c.args.survivors.now.labels.items in
    let values = attribute_values c.args.kind c.args.attributes.now in
    let a = c.children-a.result.0 in
    let b = c.children-a.result.1 in
    let hi : c.loop-i.i - 1 < length t.parents = omega (arith, c.loop-i-test.true, c.loop-i.auto.i, c.nodes-i.ensures.value) in
    let inner : t.leaves ≤ c.loop-i.i - 1 = omega (arith, c.loop-i-test.true, c.leaves-i-start.ensures.value) in
    let dead : IsDeath t m values labels (c.loop-i.i - 1) c.in-Some.child = dying-some t m values labels c.nodes-i.ensures.well_formed (c.loop-i.i - 1) a b c.in-Some.child
    (at-survivors t m values labels c.args.survivors.now.pairs.items c.deref.result.now (c.loop-i.i - 1) a b c.requires.survivors c.deref.ensures.value inner hi c.children-a.ensures.first c.children-a.ensures.second c.children-a.ensures.first_less c.children-a.ensures.second_less)
    (sym (c.dying.ensures ∙ ap (λ (xs : List ℕ). dying_after values xs a b) c.deref-in-loop-i.ensures.value) ∙ c.in-Some.is) in
    let less : c.in-Some.child < c.loop-i.i - 1 = dead.less in
    let long = survivors-length t m values c.args.survivors.now.pairs.items labels c.requires.survivors in
    let own = read-own labels c.in-Some.child c.index-label.result.now (omega (arith, less, hi, long)) c.index-label.ensures in
    let is = survivor-is_label t m values c.args.survivors.now.pairs.items labels c.nodes-i.ensures.well_formed c.requires.survivors c.in-Some.child c.index-label.result.now (omega (arith, less, hi)) own (λ none'. dead.some_label (sym own ∙ none')) in
    omega (arith, is.positive, is.most, c.loop-i.invariant.one_each)

pub loop-i-preserved-in-Some : goal.loop-i-preserved-in-Some
loop-i-preserved-in-Some c =
    let t = c.args.tree.now in
    let m = c.args.minima.now in
    let labels = c.args.survivors.now.labels.items in
    let values = attribute_values c.args.kind c.args.attributes.now in
    let a = c.children-a.result.0 in
    let b = c.children-a.result.1 in
    let hi : c.loop-i.i - 1 < length t.parents = omega (arith, c.loop-i-test.true, c.loop-i.auto.i, c.nodes-i.ensures.value) in
    let inner : t.leaves ≤ c.loop-i.i - 1 = omega (arith, c.loop-i-test.true, c.leaves-i-start.ensures.value) in
    let dead : IsDeath t m values labels (c.loop-i.i - 1) c.in-Some.child = dying-some t m values labels c.nodes-i.ensures.well_formed (c.loop-i.i - 1) a b c.in-Some.child
    (at-survivors t m values labels c.args.survivors.now.pairs.items c.deref.result.now (c.loop-i.i - 1) a b c.requires.survivors c.deref.ensures.value inner hi c.children-a.ensures.first c.children-a.ensures.second c.children-a.ensures.first_less c.children-a.ensures.second_less)
    (sym (c.dying.ensures ∙ ap (λ (xs : List ℕ). dying_after values xs a b) c.deref-in-loop-i.ensures.value) ∙ c.in-Some.is) in
    let less : c.in-Some.child < c.loop-i.i - 1 = dead.less in
    let long = survivors-length t m values c.args.survivors.now.pairs.items labels c.requires.survivors in
    let own = read-own labels c.in-Some.child c.index-label.result.now (omega (arith, less, hi, long)) c.index-label.ensures in
    let is = survivor-is_label t m values c.args.survivors.now.pairs.items labels c.nodes-i.ensures.well_formed c.requires.survivors c.in-Some.child c.index-label.result.now (omega (arith, less, hi)) own (λ none'. dead.some_label (sym own ∙ none')) in
    let next' : c.loop-i.i ≡ c.loop-i.i - 1 + 1 = omega arith in
    deaths-more t m values labels c.loop-i.values _ (c.loop-i.i - 1) c.in-Some.child c.index-label.result.now c.value_by.result hi dead.both dead.child_is own is c.value_by.ensures refl
    (subst (λ (k : ℕ). AreDeathsFrom t m values labels k c.loop-i.values) next' c.loop-i.invariant)

pub returns : goal.returns
returns c =
    deaths-down c.args.tree.now c.args.minima.now (attribute_values c.args.kind c.args.attributes.now) c.args.survivors.now.labels.items c.loop-i.values c.nodes-i.ensures.well_formed c.loop-i.i (omega (arith, c.loop-i-test.false, c.leaves-i-start.ensures.value)) (omega (arith, c.leaves-i-start.ensures.value, c.leaves-i-start.ensures.within)) c.loop-i.invariant
