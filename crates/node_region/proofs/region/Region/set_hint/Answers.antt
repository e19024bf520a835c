use Rattle.node_region.proofs.Views.{hint-seen}
use Rattle.node_region.proofs.region.Region.set_hint.Goals as goal

pub invariant_of-self : goal.invariant_of-self
invariant_of-self c =
    (hint-seen c.self.inside c.self.invariant c.set_slot.new.self _ c.args.id c.slot-slot.result _
    (record { entry = record { number = c.locate-at.ensures.number; within = c.locate-at.ensures.within; read = c.slot-slot.ensures }; kept = c.set_slot.ensures.kept; slots = c.set_slot.ensures.slots; places = c.set_slot.ensures.places })
    c.args.hint c.with_hint.ensures.cell c.with_hint.ensures.link c.with_hint.ensures.turn c.with_hint.ensures.hint).1

pub returns : goal.returns
returns c = rw (← c.self.view_is)
    (hint-seen c.self.inside c.self.invariant c.set_slot.new.self _ c.args.id c.slot-slot.result _
    (record { entry = record { number = c.locate-at.ensures.number; within = c.locate-at.ensures.within; read = c.slot-slot.ensures }; kept = c.set_slot.ensures.kept; slots = c.set_slot.ensures.slots; places = c.set_slot.ensures.places })
    c.args.hint c.with_hint.ensures.cell c.with_hint.ensures.link c.with_hint.ensures.turn c.with_hint.ensures.hint).0
