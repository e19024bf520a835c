use Rattle.std.proofs.Common.{ap, subst, ◌∙◌, ◌+◌, ℕ, length}
use Rattle.node_region.specs.Pool.{IsPool}
use Rattle.border_climb.specs.Stands.{PartState}
use Rattle.border_climb.proofs.Parts.{components-Stands}
use Rattle.border_climb.proofs.part.Part.roots.Goals as goal

pub returns-clause-components : goal.returns-clause-components
returns-clause-components c = λ s st.
    ap (λ (n : ℕ). n + c.args.self.now.region.first) (c.free_count.ensures ∙ ap (λ (p : PartState). length p.region.free) c.self.view_is)
    ∙ components-Stands c.args.self.now s (subst (λ (p : PartState). IsPool p.region) c.self.view_is c.keeps_its_rules.ensures.pool) st
