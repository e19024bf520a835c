use Rattle.std.proofs.Common.{arith}
use Rattle.border_climb.proofs.Pools.{some-map}
use Rattle.border_climb.proofs.Ways.{up-used, further-above, further-noted}
use Rattle.border_climb.proofs.climbing.ahead.Goals as goal

pub below-requires : goal.below-requires
below-requires c = up-used _ c.args.here.met.rank c.requires.climbable c.args.here.met.id c.args.here.entry.cell c.requires.seen.cell (omega (arith, c.requires.seen.rank))

pub returns-in-Some-clause-further : goal.returns-in-Some-clause-further
returns-in-Some-clause-further c = further-noted c.args.region.now c.args.here c.requires.seen c.requires.climbable c.in-Some.next.met c.in-Some.ensures.named

pub returns-in-None-clause-further : goal.returns-in-None-clause-further
returns-in-None-clause-further c =
    some-map _ _ c.below.result (λ next b. further-above c.args.region.now c.args.here.met c.requires.climbable c.args.here.entry.cell c.requires.seen.cell
    c.requires.seen.rank c.args.r next.met b) c.below.ensures.some
