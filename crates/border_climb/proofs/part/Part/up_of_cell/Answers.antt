use Rattle.std.proofs.Common.{subst, ◌<◌, arith}
use Rattle.std.specs.Prelude.{IfSome}
use Rattle.node_region.specs.Pool.{IsUsed}
use Rattle.border_climb.specs.Stands.{PartState}
use Rattle.border_climb.specs.Splicing.{rank_of}
use Rattle.border_climb.proofs.Pools.{sound-climbable}
use Rattle.border_climb.proofs.Ways.{up-used}
use Rattle.border_climb.proofs.Parts.{higher-up}
use Rattle.border_climb.proofs.part.Part.up_of_cell.Goals as goal

pub returns-clause-used : goal.returns-clause-used
returns-clause-used c =
    subst (λ (p : PartState). IfSome c.get.result.up (IsUsed p.region)) c.self.view_is
    (up-used c.self.inside.region 0 (sound-climbable c.self.inside.region c.self.invariant.sound 0) c.args.id c.get.result c.get.ensures (omega arith))

pub returns-clause-higher : goal.returns-clause-higher
returns-clause-higher c =
    subst (λ (p : PartState). IfSome c.get.result.up (λ above. rank_of p.region c.args.id < rank_of p.region above)) c.self.view_is
    (higher-up c.self.inside.region c.self.invariant.sound c.args.id c.get.result c.get.ensures)
