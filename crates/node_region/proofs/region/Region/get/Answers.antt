use Rattle.std.proofs.Common.{◌∙◌, sym}
use Rattle.node_region.proofs.PoolLaws.{used-covered, used-none}
use Rattle.node_region.proofs.region.Region.get.Goals as goal

pub slot_of-requires : goal.slot_of-requires
slot_of-requires c = used-covered c.args.self.now c.args.id c.requires

pub unreachable-requires : goal.unreachable-requires
unreachable-requires c = used-none c.args.self.now c.args.id c.requires (sym c.slot_of.ensures.cell ∙ sym c.cell.ensures ∙ c.in-None.is)

pub returns : goal.returns
returns c = sym c.slot_of.ensures.cell ∙ sym c.cell.ensures ∙ c.in-Some.is
