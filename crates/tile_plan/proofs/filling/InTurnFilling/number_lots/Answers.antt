use Rattle.std.proofs.Common.{arith}
use Rattle.tile_plan.specs.Dealing.{IsLotOf}
use Rattle.tile_plan.proofs.Filled.{filled_more}
use Rattle.tile_plan.proofs.filling.InTurnFilling.number_lots.Goals as goal

pub loop-number-preserved : goal.loop-number-preserved
loop-number-preserved c =
    filled_more (IsLotOf c.args.grid c.args.homes.now c.args.graph.now.edges) c.loop-number.numbers c.loop-number.number c.lot_at.result c.loop-number.invariant c.lot_at.ensures (omega arith)
