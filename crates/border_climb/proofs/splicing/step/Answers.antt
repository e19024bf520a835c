use Rattle.border_climb.proofs.Writes.{seam-turned}
use Rattle.border_climb.proofs.splicing.step.Goals as goal

pub advance-requires-else-one-other-clause-seam : goal.advance-requires-else-one-other-clause-seam
advance-requires-else-one-other-clause-seam c =
    let w = c.requires.seam in (w.0, (w.1.0, seam-turned _ w.0 w.1.0 _ _ _ w.1.1))

pub returns-else-one-other-clause-steps : goal.returns-else-one-other-clause-steps
returns-else-one-other-clause-steps c = λ e s m. c.advance-else-one-other.ensures.steps e s (seam-turned _ e s _ _ _ m)
