use Rattle.std.proofs.Common.{◌≡◌, ◌<◌, ◌+◌, ◌-◌, ℕ, refl, sym, ◌∙◌, subst, inl, inr, arith, length}
use Rattle.extinction.specs.Values.{attribute_values}
use Rattle.extinction.specs.NodeSurvivors.{AreRootsFrom}
use Rattle.extinction.proofs.OneGraph.{one-areas}
use Rattle.extinction.proofs.NodeSurvivorLemmas.{survivors-length, survivor-is_label, read-own, roots-same, roots-more}
use Rattle.extinction.proofs.deaths.note_roots.Goals as goal
use Rattle.extinction.proofs.deaths.note_roots.Goals.{else-label-ne0-via-then-label-ne0+else-parent-i, else-label-ne0-via-else-label-ne0}

pub index-label-requires : goal.index-label-requires
index-label-requires c =
    let long = survivors-length c.args.tree.now c.args.minima.now (attribute_values c.args.kind c.args.attributes.now) c.args.survivors.now.pairs.items c.args.survivors.now.labels.items c.requires.survivors in
    omega (arith, long, c.args.survivors.now.labels.ok.0, c.loop-i-test.true, c.loop-i.auto.i, c.nodes-i.ensures.value)

pub value_by-requires : goal.value_by-requires
value_by-requires c =
    let long = one-areas c.args.tree.now c.args.attributes.now c.args.minima.now c.requires.one in
    omega (arith, long, c.loop-i-test.true, c.loop-i.auto.i, c.nodes-i.ensures.value)

pub bounds-values-label : goal.bounds-values-label
bounds-values-label c =
    let t = c.args.tree.now in
    let labels = c.args.survivors.now.labels.items in
    let values = attribute_values c.args.kind c.args.attributes.now in
    let long = survivors-length t c.args.minima.now values c.args.survivors.now.pairs.items labels c.requires.survivors in
    let hi : c.loop-i.i - 1 < length t.parents = omega (arith, c.loop-i-test.true, c.loop-i.auto.i, c.nodes-i.ensures.value) in
    let own = read-own labels (c.loop-i.i - 1) c.index-label.result.now (omega (arith, hi, long)) c.index-label.ensures in
    let is = survivor-is_label t c.args.minima.now values c.args.survivors.now.pairs.items labels c.nodes-i.ensures.well_formed c.requires.survivors (c.loop-i.i - 1) c.index-label.result.now hi own c.if-label-ne0.true in
    omega (arith, is.positive, is.most, c.loop-i.invariant.one_each)

pub loop-i-preserved-then-parent-i : goal.loop-i-preserved-then-parent-i
loop-i-preserved-then-parent-i c =
    let t = c.args.tree.now in
    let m = c.args.minima.now in
    let i : ℕ = c.loop-i.i - 1 in
    let labels = c.args.survivors.now.labels.items in
    let values = attribute_values c.args.kind c.args.attributes.now in
    let long = survivors-length t m values c.args.survivors.now.pairs.items labels c.requires.survivors in
    let hi : c.loop-i.i - 1 < length t.parents = omega (arith, c.loop-i-test.true, c.loop-i.auto.i, c.nodes-i.ensures.value) in
    let own = read-own labels (c.loop-i.i - 1) c.index-label.result.now (omega (arith, hi, long)) c.index-label.ensures in
    let is = survivor-is_label t m values c.args.survivors.now.pairs.items labels c.nodes-i.ensures.well_formed c.requires.survivors (c.loop-i.i - 1) c.index-label.result.now hi own c.if-label-ne0.true in
    let next' : c.loop-i.i ≡ c.loop-i.i - 1 + 1 = omega arith in
    roots-more t m values labels c.loop-i.values _ (c.loop-i.i - 1) c.index-label.result.now c.value_by.result hi (sym c.parent.ensures.value ∙ c.if-parent-i.true) own is c.value_by.ensures refl
    (subst (λ (k : ℕ). AreRootsFrom t m values labels k c.loop-i.values) next' c.loop-i.invariant)

pub loop-i-preserved : goal.loop-i-preserved
loop-i-preserved c =
    let t = c.args.tree.now in
    let m = c.args.minima.now in
    let labels = c.args.survivors.now.labels.items in
    let values = attribute_values c.args.kind c.args.attributes.now in
    let long = survivors-length t m values c.args.survivors.now.pairs.items labels c.requires.survivors in
    let hi : c.loop-i.i - 1 < length t.parents = omega (arith, c.loop-i-test.true, c.loop-i.auto.i, c.nodes-i.ensures.value) in
    let own = read-own labels (c.loop-i.i - 1) c.index-label.result.now (omega (arith, hi, long)) c.index-label.ensures in
    let next' : c.loop-i.i ≡ c.loop-i.i - 1 + 1 = omega arith in
    let before = subst (λ (k : ℕ). AreRootsFrom t m values labels k c.loop-i.values) next' c.loop-i.invariant in
    elim c.else-label-ne0.branch [
      | else-label-ne0-via-then-label-ne0+else-parent-i w ↦ roots-same t m values labels c.loop-i.values (c.loop-i.i - 1) hi (inl (λ same. w.if-parent-i.false (w.parent.ensures.value ∙ same))) before
      | else-label-ne0-via-else-label-ne0 w ↦ roots-same t m values labels c.loop-i.values (c.loop-i.i - 1) hi (inr (sym own ∙ w.if-label-ne0.false)) before
    ]
