use Rattle.component_tree.proofs.ListSteps.{element_next}
use Rattle.component_tree.proofs.weights.areas.Goals as goal

pub loop-v-preserved : goal.loop-v-preserved
loop-v-preserved c = element_next c.args.graph.now.areas c.loop-v.v c.area.result c.loop-v.areas.items c.push.new.self.items c.loop-v.invariant c.area.ensures.area c.in_ok-push.ensures.items
