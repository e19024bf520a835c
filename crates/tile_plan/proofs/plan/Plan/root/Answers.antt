use Rattle.std.proofs.Common.{arith}
use Rattle.tile_plan.proofs.Reading.{holds-as, some-tile}
use Rattle.tile_plan.proofs.plan.Plan.root.Goals as goal

pub overflow_sub-result : goal.overflow_sub-result
overflow_sub-result c =
    let h = holds-as c.self.inside c.args.self.now c.self.view_is c.self.invariant in
    omega (arith, h.tiles, some-tile c.args.self.now h.plan)
