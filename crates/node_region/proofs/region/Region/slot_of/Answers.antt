use Rattle.std.proofs.Common.{sym}
use Rattle.node_region.proofs.Views.{cell-read, turn-read, hint-read}
use Rattle.node_region.proofs.region.Region.slot_of.Goals as goal

pub returns-clause-cell : goal.returns-clause-cell
returns-clause-cell c = rw (← c.self.view_is) (sym (cell-read c.self.inside _ c.args.id c.slot.result (record { number = c.locate.ensures.number; within = c.locate.ensures.within; read = c.slot.ensures })))

pub returns-clause-turn : goal.returns-clause-turn
returns-clause-turn c = rw (← c.self.view_is) (sym (turn-read c.self.inside _ c.args.id c.slot.result (record { number = c.locate.ensures.number; within = c.locate.ensures.within; read = c.slot.ensures })))

pub returns-clause-hint : goal.returns-clause-hint
returns-clause-hint c = rw (← c.self.view_is) (sym (hint-read c.self.inside _ c.args.id c.slot.result (record { number = c.locate.ensures.number; within = c.locate.ensures.within; read = c.slot.ensures })))
