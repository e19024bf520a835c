use Rattle.node_region.proofs.Rows.{entry-read}
use Rattle.node_region.proofs.tables.Tables.slot.Goals as goal

pub returns : goal.returns
returns c = entry-read c.args.self.now.slots.items c.args.at c.requires c.index.result.now c.index-2.result.now c.index.ensures c.index-2.ensures
