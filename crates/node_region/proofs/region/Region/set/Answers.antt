use Rattle.node_region.proofs.Views.{cell-seen}
use Rattle.node_region.proofs.region.Region.set.Goals as goal

pub invariant_of-self : goal.invariant_of-self
invariant_of-self c =
    (cell-seen c.self.inside c.self.invariant c.set_slot.new.self _ c.args.id c.slot-slot.result _
    (record { entry = record { number = c.locate-at.ensures.number; within = c.locate-at.ensures.within; read = c.slot-slot.ensures }; kept = c.set_slot.ensures.kept; slots = c.set_slot.ensures.slots; places = c.set_slot.ensures.places })
    c.args.cell (rw (← c.self.view_is) at c.requires) c.with_cell.ensures.cell c.with_cell.ensures.turn c.with_cell.ensures.hint).1

pub returns : goal.returns
returns c = rw (← c.self.view_is)
    (cell-seen c.self.inside c.self.invariant c.set_slot.new.self _ c.args.id c.slot-slot.result _
    (record { entry = record { number = c.locate-at.ensures.number; within = c.locate-at.ensures.within; read = c.slot-slot.ensures }; kept = c.set_slot.ensures.kept; slots = c.set_slot.ensures.slots; places = c.set_slot.ensures.places })
    c.args.cell (rw (← c.self.view_is) at c.requires) c.with_cell.ensures.cell c.with_cell.ensures.turn c.with_cell.ensures.hint).0
