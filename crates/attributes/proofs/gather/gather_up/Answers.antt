use Rattle.std.proofs.Common.{◌≡◌, ◌+◌, ◌<◌, ◌^◌, ℕ, suc, sym, ◌∙◌, subst, arith, List, length, get_or, set}
use Rattle.attributes.specs.Gathering.{combined}
use Rattle.attributes.proofs.GatheredUp.{AreGatheredTo, gathered_first, gathered_root, gathered_up, both-fit, gathered_all}
use Rattle.attributes.proofs.gather.gather_up.Goals as goal
use Rattle.attributes.proofs.gather.gather_up.Goals.{then-parent-i, else-parent-i}

pub loop-i-init : goal.loop-i-init
loop-i-init c = gathered_first c.args.operation c.args.tree.now c.args.values.now c.requires.one_each (λ j. omega (arith, c.type_inv.values j))

pub combined-both-requires : goal.combined-both-requires
combined-both-requires c =
    let t = c.args.tree.now in
    let low : c.loop-i.i < length t.parents = omega (arith, c.loop-i-test.true, c.nodes-i-end.ensures.value) in
    let f = c.nodes-i-end.ensures.well_formed in
    subst (λ (p : ℕ). combined c.args.operation (get_or c.loop-i.values p 0) (get_or c.loop-i.values c.loop-i.i 0) < 2 ^ 64) (sym c.parent-parent.ensures.value)
    (both-fit c.args.operation t c.args.values.now c.loop-i.values c.loop-i.i (f.rises c.loop-i.i low) (f.within c.loop-i.i low) low
    (λ e. c.if-parent-i.true (c.parent-parent.ensures.value ∙ e)) c.loop-i.invariant c.requires.fits)

pub loop-i-preserved : goal.loop-i-preserved
loop-i-preserved c =
    let t = c.args.tree.now in
    let op = c.args.operation in
    let e : c.loop-i.i + 1 ≡ suc c.loop-i.i = omega arith in
    let low : c.loop-i.i < length t.parents = omega (arith, c.loop-i-test.true, c.nodes-i-end.ensures.value) in
    let f = c.nodes-i-end.ensures.well_formed in
    subst (λ (m : ℕ). AreGatheredTo op t c.args.values.now m c.if-parent-i.values) (sym e)
    (elim c.if-parent-i.branch [
      | then-parent-i w ↦
          subst (λ (xs : List ℕ). AreGatheredTo op t c.args.values.now (suc c.loop-i.i) xs) (sym w.values-is)
          (subst (λ (v : ℕ). AreGatheredTo op t c.args.values.now (suc c.loop-i.i) (set c.loop-i.values c.parent-parent.result v)) (sym w.combined-both.ensures)
          (subst (λ (p : ℕ). AreGatheredTo op t c.args.values.now (suc c.loop-i.i) (set c.loop-i.values p (combined op (get_or c.loop-i.values p 0) (get_or c.loop-i.values c.loop-i.i 0)))) (sym c.parent-parent.ensures.value)
          (gathered_up op t c.args.values.now c.loop-i.values c.loop-i.i (f.rises c.loop-i.i low) (f.within c.loop-i.i low) low
          (λ q. w.if-parent-i.true (c.parent-parent.ensures.value ∙ q)) c.loop-i.invariant)))
      | else-parent-i w ↦
          subst (λ (xs : List ℕ). AreGatheredTo op t c.args.values.now (suc c.loop-i.i) xs) (sym w.values-is)
          (gathered_root op t c.args.values.now c.loop-i.values c.loop-i.i (sym c.parent-parent.ensures.value ∙ w.if-parent-i.false) c.loop-i.invariant)
    ])

pub returns : goal.returns
returns c =
    let t = c.args.tree.now in
    let all : c.loop-i.i ≡ length t.parents = omega (arith, c.loop-i.auto.i-end, c.loop-i-test.false, c.nodes-i-end.ensures.value) in
    gathered_all c.args.operation t c.args.values.now c.loop-i.values c.nodes-i-end.ensures.well_formed
    (subst (λ (m : ℕ). AreGatheredTo c.args.operation t c.args.values.now m c.loop-i.values) all c.loop-i.invariant)
