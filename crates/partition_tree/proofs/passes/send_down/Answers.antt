use Rattle.std.proofs.Common.{◌≡◌, ◌+◌, ◌-◌, ◌<◌, ℕ, sym, ◌∙◌, subst, arith}
use Rattle.partition_tree.specs.TreeLists.{nodes}
use Rattle.partition_tree.proofs.WellFormed.{well_formed-climbs}
use Rattle.partition_tree.proofs.NearestStops.{AreOfStopsFrom, sent-first, sent-stop, sent-parent, sent-all}
use Rattle.partition_tree.proofs.passes.send_down.Goals as goal

pub loop-i-init : goal.loop-i-init
loop-i-init g c test agrees = sent-first c.args.tree.now test c.nodes-i.result c.args.values.now c.nodes-i.ensures.value c.requires.one_each

pub loop-i-preserved : goal.loop-i-preserved
loop-i-preserved g c test agrees =
    let t = c.args.tree.now in
    let i = c.loop-i.i - 1 in
    let e : c.loop-i.i ≡ c.loop-i.i - 1 + 1 = omega arith in
    let low : c.loop-i.i - 1 < nodes t = omega (arith, c.loop-i.auto.i, c.nodes-i.ensures.value) in
    sent-stop t test i c.args.values.now c.loop-i.values (subst (λ (n : ℕ). AreOfStopsFrom t test n c.args.values.now c.loop-i.values) e (c.loop-i.invariant test agrees))
    (sym (agrees i _ low c.stops.ensures) ∙ c.if-not-stops.false)

pub loop-i-preserved-then-not-stops : goal.loop-i-preserved-then-not-stops
loop-i-preserved-then-not-stops g c test agrees =
    let t = c.args.tree.now in
    let i = c.loop-i.i - 1 in
    let e : c.loop-i.i ≡ c.loop-i.i - 1 + 1 = omega arith in
    let low : c.loop-i.i - 1 < nodes t = omega (arith, c.loop-i.auto.i, c.nodes-i.ensures.value) in
    sent-parent t (well_formed-climbs t c.nodes-i.ensures.well_formed) test i c.parent.result c.args.values.now c.loop-i.values low c.parent.ensures.value
    (subst (λ (n : ℕ). AreOfStopsFrom t test n c.args.values.now c.loop-i.values) e (c.loop-i.invariant test agrees))
    (sym (agrees i _ low c.stops.ensures) ∙ c.if-not-stops.true)

pub returns-clause-values : goal.returns-clause-values
returns-clause-values g c test agrees =
    let last : c.loop-i.i ≡ 0 = omega arith in
    sent-all c.args.tree.now test c.args.values.now c.loop-i.values (subst (λ (n : ℕ). AreOfStopsFrom c.args.tree.now test n c.args.values.now c.loop-i.values) last (c.loop-i.invariant test agrees))
