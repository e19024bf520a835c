use Rattle.watershed_cut.proofs.LowerNodes.{keys_more}
use Rattle.watershed_cut.proofs.plateaus.leaf_keys.Goals as goal

pub loop-x-preserved : goal.loop-x-preserved
loop-x-preserved c = keys_more c.args.tree.now c.loop-x.x c.leaf_key.result c.loop-x.keys.items c.push.new.self.items c.loop-x.invariant c.leaf_key.ensures c.in_ok-push.ensures.items
