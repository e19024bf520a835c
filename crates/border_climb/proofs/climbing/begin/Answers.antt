use Rattle.border_climb.proofs.Pools.{sound-climbable}
use Rattle.border_climb.proofs.Ways.{starts-noted, seen-read, begun-below}
use Rattle.border_climb.proofs.climbing.begin.Goals as goal

pub returns-in-Some : goal.returns-in-Some
returns-in-Some c = (
  starts-noted c.args.region.now c.args.place c.args.r c.requires.sound c.requires.covered c.finger.result c.finger.ensures c.in-Some.start.met c.in-Some.ensures.named c.in-Some.ensures.low,
  seen-read c.args.region.now c.in-Some.start (sound-climbable _ c.requires.sound _) c.in-Some.ensures.read,
)

pub returns-in-None : goal.returns-in-None
returns-in-None c = begun-below c.args.region.now c.args.place c.args.r c.leaf.result c.leaf.ensures c.below.result c.requires.sound c.below.ensures.some c.below.ensures.read c.below.ensures.none
