use Rattle.std.proofs.Common.{sym}
use Rattle.node_region.proofs.Views.{leaf-read, finger-read}
use Rattle.node_region.proofs.region.Region.place_of.Goals as goal

pub returns-clause-leaf : goal.returns-clause-leaf
returns-clause-leaf c = rw (← c.self.view_is) (sym (leaf-read c.self.inside _ c.args.place c.place.result (record { number = c.locate.ensures.number; within = c.locate.ensures.within_places; read = c.place.ensures })))

pub returns-clause-finger : goal.returns-clause-finger
returns-clause-finger c = rw (← c.self.view_is) (sym (finger-read c.self.inside _ c.args.place c.place.result (record { number = c.locate.ensures.number; within = c.locate.ensures.within_places; read = c.place.ensures })))
