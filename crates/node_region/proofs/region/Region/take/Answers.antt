use Rattle.std.proofs.Common.{refl, arith, ◌∙◌}
use Rattle.node_region.proofs.Views.{covered-within}
use Rattle.node_region.proofs.Takes.{head-covered, taken-seen, taken-split}
use Rattle.node_region.proofs.region.Region.take.Goals as goal

pub locate-at-requires-clause-from : goal.locate-at-requires-clause-from
locate-at-requires-clause-from c = (covered-within c.self.inside c.self.inside.free.head (head-covered c.self.inside c.self.invariant c.if-self-eq0.false)).0

pub locate-at-requires-clause-below : goal.locate-at-requires-clause-below
locate-at-requires-clause-below c = (covered-within c.self.inside c.self.inside.free.head (head-covered c.self.inside c.self.invariant c.if-self-eq0.false)).1

pub invariant_of-self : goal.invariant_of-self
invariant_of-self c =
    (taken-seen c.self.inside c.self.invariant c.if-self-eq0.false c.set_slot.new.self _ c.slot-slot.result _
    (record { entry = record { number = c.locate-at.ensures.number; within = c.locate-at.ensures.within; read = c.slot-slot.ensures }; kept = c.set_slot.ensures.kept; slots = c.set_slot.ensures.slots; places = c.set_slot.ensures.places })
    _ c.args.cell refl c.with_cell.ensures.cell (c.with_cell.ensures.turn ∙ omega (arith, c.saturating_add.ensures)) c.with_cell.ensures.hint).1

pub returns-clause-taken : goal.returns-clause-taken
returns-clause-taken c = rw (← c.self.view_is)
    (taken-seen c.self.inside c.self.invariant c.if-self-eq0.false c.set_slot.new.self _ c.slot-slot.result _
    (record { entry = record { number = c.locate-at.ensures.number; within = c.locate-at.ensures.within; read = c.slot-slot.ensures }; kept = c.set_slot.ensures.kept; slots = c.set_slot.ensures.slots; places = c.set_slot.ensures.places })
    _ c.args.cell refl c.with_cell.ensures.cell (c.with_cell.ensures.turn ∙ omega (arith, c.saturating_add.ensures)) c.with_cell.ensures.hint).0

pub returns-clause-first : goal.returns-clause-first
returns-clause-first c = rw (← c.self.view_is)
    (taken-split c.self.inside c.self.invariant c.if-self-eq0.false c.set_slot.new.self _ c.slot-slot.result _
    (record { entry = record { number = c.locate-at.ensures.number; within = c.locate-at.ensures.within; read = c.slot-slot.ensures }; kept = c.set_slot.ensures.kept; slots = c.set_slot.ensures.slots; places = c.set_slot.ensures.places })
    _ c.args.cell refl c.with_cell.ensures.cell (c.with_cell.ensures.turn ∙ omega (arith, c.saturating_add.ensures)) c.with_cell.ensures.hint)
