use Rattle.std.proofs.Common.{◌∙◌, sym}
use Rattle.node_region.proofs.PoolLaws.{used-covered, used-none}
use Rattle.node_region.proofs.region.Region.entry.Goals as goal

pub slot_of-slot-requires : goal.slot_of-slot-requires
slot_of-slot-requires c = used-covered c.args.self.now c.args.id c.requires

pub unreachable-requires : goal.unreachable-requires
unreachable-requires c = used-none c.args.self.now c.args.id c.requires (sym c.slot_of-slot.ensures.cell ∙ sym c.cell.ensures ∙ c.in-None.is)

pub returns : goal.returns
returns c = record {
  cell = sym c.slot_of-slot.ensures.cell ∙ sym c.cell.ensures ∙ c.in-Some.is;
  turn = sym c.slot_of-slot.ensures.turn;
  hint = sym c.slot_of-slot.ensures.hint ∙ sym c.hint.ensures;
}
