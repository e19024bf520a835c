use Rattle.std.proofs.Common.{refl}
use Rattle.node_region.proofs.Linking.{tail-free, linked-written}
use Rattle.node_region.proofs.tables.Tables.link.Goals as goal

pub locate-at-requires-clause-from : goal.locate-at-requires-clause-from
locate-at-requires-clause-from c = (tail-free c.args.self.now c.args.front c.args.behind c.requires c.if-front-eq0.false).from

pub locate-at-requires-clause-below : goal.locate-at-requires-clause-below
locate-at-requires-clause-below c = (tail-free c.args.self.now c.args.front c.args.behind c.requires c.if-front-eq0.false).below

pub returns : goal.returns
returns c = linked-written c.args.self.now c.set_slot.new.self c.args.front c.args.behind c.requires c.if-front-eq0.false c.if-behind-eq0.false
    _ c.slot-slot.result _ (record { number = c.locate-at.ensures.number; within = c.locate-at.ensures.within; read = c.slot-slot.ensures })
    c.set_slot.ensures.kept c.set_slot.ensures.slots c.set_slot.ensures.places refl refl refl refl
