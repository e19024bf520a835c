use Rattle.node_region.proofs.Views.{finger-seen}
use Rattle.node_region.proofs.region.Region.set_finger.Goals as goal

pub invariant_of-self : goal.invariant_of-self
invariant_of-self c =
    (finger-seen c.self.inside c.self.invariant c.set_place.new.self _ c.args.place c.place-entry.result _
    (record { entry = record { number = c.locate-at.ensures.number; within = c.locate-at.ensures.within_places; read = c.place-entry.ensures }; kept = c.set_place.ensures.kept; places = c.set_place.ensures.places; slots = c.set_place.ensures.slots })
    c.args.finger c.with_finger.ensures.leaf c.with_finger.ensures.finger).1

pub returns : goal.returns
returns c = rw (← c.self.view_is)
    (finger-seen c.self.inside c.self.invariant c.set_place.new.self _ c.args.place c.place-entry.result _
    (record { entry = record { number = c.locate-at.ensures.number; within = c.locate-at.ensures.within_places; read = c.place-entry.ensures }; kept = c.set_place.ensures.kept; places = c.set_place.ensures.places; slots = c.set_place.ensures.slots })
    c.args.finger c.with_finger.ensures.leaf c.with_finger.ensures.finger).0
