use Rattle.std.proofs.Common.{refl, arith}
use Rattle.node_region.proofs.Takes.{given_back-seen, few-free}
use Rattle.node_region.proofs.region.Region.give_back.Goals as goal

pub put_in_front-self-inside-requires : goal.put_in_front-self-inside-requires
put_in_front-self-inside-requires c = omega (arith, few-free c.self.inside c.self.invariant)

pub invariant_of-self : goal.invariant_of-self
invariant_of-self c =
    (given_back-seen c.self.inside c.self.invariant c.set_slot.new.self _ c.args.id c.slot-slot.result _
    (record { entry = record { number = c.locate-at.ensures.number; within = c.locate-at.ensures.within; read = c.slot-slot.ensures }; kept = c.set_slot.ensures.kept; slots = c.set_slot.ensures.slots; places = c.set_slot.ensures.places })
    c.put_in_front-self-inside.result (record { count = c.put_in_front-self-inside.ensures.count; head = c.put_in_front-self-inside.ensures.head; only = c.put_in_front-self-inside.ensures.only; tail = c.put_in_front-self-inside.ensures.tail }) (rw (← c.self.view_is) at c.requires) refl refl refl refl).1

pub returns : goal.returns
returns c = rw (← c.self.view_is)
    (given_back-seen c.self.inside c.self.invariant c.set_slot.new.self _ c.args.id c.slot-slot.result _
    (record { entry = record { number = c.locate-at.ensures.number; within = c.locate-at.ensures.within; read = c.slot-slot.ensures }; kept = c.set_slot.ensures.kept; slots = c.set_slot.ensures.slots; places = c.set_slot.ensures.places })
    c.put_in_front-self-inside.result (record { count = c.put_in_front-self-inside.ensures.count; head = c.put_in_front-self-inside.ensures.head; only = c.put_in_front-self-inside.ensures.only; tail = c.put_in_front-self-inside.ensures.tail }) (rw (← c.self.view_is) at c.requires) refl refl refl refl).0
