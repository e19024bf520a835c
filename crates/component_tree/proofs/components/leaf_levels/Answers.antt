use Rattle.component_tree.specs.MinTree.{value_at}
use Rattle.partition_tree.proofs.ListsByNumber.{values_more}
use Rattle.component_tree.proofs.components.leaf_levels.Goals as goal

pub loop-x-preserved : goal.loop-x-preserved
loop-x-preserved c = values_more (value_at c.args.values.now) c.loop-x.x c.value.result c.loop-x.levels.items c.push.new.self.items c.loop-x.invariant c.value.ensures.value c.in_ok-push.ensures.items
