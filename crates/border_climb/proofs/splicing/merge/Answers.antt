use Rattle.std.proofs.Common.{sym, ap, ◌∙◌, Some}
use Rattle.border_climb.proofs.Writes.{seam-at, range-on}
use Rattle.border_climb.proofs.splicing.merge.Goals as goal

pub replace-requires : goal.replace-requires
replace-requires c =
    let w = c.requires in
    (w.0, (w.1.0, seam-at _ w.0 w.1.0 _ _ _ _ _ (c.loop-seam.invariant.steps w.0 w.1.0 w.1.1) c.in-Some-Some.is-0 (c.in-Some-Some.is-1 ∙ ap Some (sym c.if-first-second.true))))

pub returns-then-first-second-clause-ends : goal.returns-then-first-second-clause-ends
returns-then-first-second-clause-ends c = λ e s m.
    c.replace.ensures.ends e s (seam-at _ e s _ _ _ _ _ (c.loop-seam.invariant.steps e s m) c.in-Some-Some.is-0 (c.in-Some-Some.is-1 ∙ ap Some (sym c.if-first-second.true)))

pub step-seam-requires-clause-seam : goal.step-seam-requires-clause-seam
step-seam-requires-clause-seam c =
    let w = c.requires in
    (w.0, (w.1.0, seam-at _ w.0 w.1.0 _ _ _ _ _ (c.loop-seam.invariant.steps w.0 w.1.0 w.1.1) c.in-Some-Some.is-0 c.in-Some-Some.is-1))

pub loop-seam-preserved : goal.loop-seam-preserved
loop-seam-preserved c = record {
  steps = λ e s m. c.step-seam.ensures.steps e s (seam-at _ e s _ _ _ _ _ (c.loop-seam.invariant.steps e s m) c.in-Some-Some.is-0 c.in-Some-Some.is-1);
  range = range-on _ _ _ c.loop-seam.invariant.range c.step-seam.ensures.range;
}

pub finish-requires-clause-seam : goal.finish-requires-clause-seam
finish-requires-clause-seam c =
    let w = c.requires in (w.0, (w.1.0, c.loop-seam.invariant.steps w.0 w.1.0 w.1.1))

pub returns-clause-ends : goal.returns-clause-ends
returns-clause-ends c = λ e s m. c.finish.ensures.ends e s (c.loop-seam.invariant.steps e s m)
