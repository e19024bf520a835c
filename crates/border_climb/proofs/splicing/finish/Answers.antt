use Rattle.std.proofs.Common.{◌≡◌, refl, sym, ◌∙◌, Some, None, inl, inr, ℕ}
use Rattle.border_climb.proofs.Writes.{finished, seam-at, seam-turned}
use Rattle.border_climb.proofs.splicing.finish.Goals as goal

never : (n : ℕ) → Some n ≡ None → ⊥
never n h = cc

pub returns-in-Some-clause-ends : goal.returns-in-Some-clause-ends
returns-in-Some-clause-ends c = λ e s m. elim c.requires.one [
  | inl none ↦ absurd (never c.in-Some.field-0 (sym c.in-Some.is ∙ none))
  | inr none ↦ finished c.args.region.now c.link.new.region e s c.args.seam.last c.args.seam.first (seam-at _ e s _ _ _ _ _ m refl none) c.link.ensures
]

pub returns-in-None-clause-ends : goal.returns-in-None-clause-ends
returns-in-None-clause-ends c = λ e s m.
    finished c.args.region.now c.link-in-None.new.region e s c.args.seam.last c.args.seam.second (seam-turned _ e s _ _ _ (seam-at _ e s _ _ _ _ _ m c.in-None.is refl)) c.link-in-None.ensures
