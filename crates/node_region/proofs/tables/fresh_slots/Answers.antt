use Rattle.std.proofs.Common.{arith}
use Rattle.std.proofs.lemmas.Grind.{common_steps}
use Rattle.node_region.proofs.Rows.{fresh-more}
use Rattle.node_region.proofs.tables.fresh_slots.Goals as goal

pub loop-id-preserved : goal.loop-id-preserved
loop-id-preserved c = rw (fresh-more c.args.first c.loop-id.id c.loop-id.auto.id) (grind (arith, common_steps))
