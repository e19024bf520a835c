use Rattle.std.proofs.Common.{sym}
use Rattle.node_region.specs.Tables.{links_in, entries_of}
use Rattle.node_region.proofs.Threads.{thread-length}
use Rattle.node_region.proofs.region.Region.free_count.Goals as goal

pub returns : goal.returns
returns c = rw (← c.self.view_is) (sym (thread-length c.self.inside.tables.first (links_in (entries_of c.self.inside.tables.slots.items)) c.self.inside.free.count c.self.inside.free.head))
