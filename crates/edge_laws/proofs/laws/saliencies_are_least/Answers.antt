use Rattle.std.proofs.Common.{ℕ, sym, subst}
use Rattle.edge_laws.specs.Saliency.{IsSaliency}
use Rattle.edge_laws.proofs.Saliencies.{saliency-is, saliency-only}
use Rattle.edge_laws.proofs.laws.saliencies_are_least.Goals as goal

pub returns : goal.returns
returns c = λ g e k h. (saliency-only g e k h, λ same. subst (λ (j : ℕ). IsSaliency g e j) (sym same) (saliency-is g e h))
