use Rattle.std.proofs.Common.{arith}
use Rattle.tile_plan.proofs.Laying.{lot_in-same, lot_in-below, lot-read}
use Rattle.tile_plan.proofs.tables.lot_between.Goals as goal

pub returns-then-first-second-clause-value : goal.returns-then-first-second-clause-value
returns-then-first-second-clause-value c = lot_in-same c.args.grid c.requires.small c.args.first c.args.second c.if-first-second.true c.requires.first

pub returns-clause-value : goal.returns-clause-value
returns-clause-value c = lot-read c.args.grid c.tiles-n.result c.args.first c.args.second _ c.root.result c.requires.small c.tiles-n.ensures.value c.root.ensures c.lot_of.ensures

pub returns-clause-below : goal.returns-clause-below
returns-clause-below c =
    let same = lot-read c.args.grid c.tiles-n.result c.args.first c.args.second c.lot_of.result c.root.result c.requires.small c.tiles-n.ensures.value c.root.ensures c.lot_of.ensures in
    omega (arith, same, lot_in-below c.args.grid c.requires.small c.args.first c.args.second)
