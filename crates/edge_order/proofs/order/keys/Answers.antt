use Rattle.edge_order.proofs.Packed.{keys_more}
use Rattle.edge_order.proofs.order.keys.Goals as goal

pub loop-number-preserved : goal.loop-number-preserved
loop-number-preserved c =
    rw c.in_ok-push.ensures.items (keys_more c.args.graph.now c.loop-number.number c.edge.result c.new.result _ c.edge.ensures.value c.new.ensures c.loop-number.invariant)
