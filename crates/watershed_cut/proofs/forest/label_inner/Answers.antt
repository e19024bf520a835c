use Rattle.std.proofs.Common.{arith}
use Rattle.watershed_cut.proofs.ChosenEdges.{node_labels-more}
use Rattle.watershed_cut.proofs.forest.label_inner.Goals as goal

pub loop-i-preserved : goal.loop-i-preserved
loop-i-preserved c =
    node_labels-more c.args.graph.now c.args.tree.now c.args.minima.now.vertices c.args.near.now c.loop-i.i c.held_end-end.result c.loop-i.labels
    (omega (arith, c.loop-i.auto.i, c.leaves-i.ensures.value)) (omega (arith, c.loop-i-test.true, c.nodes-i-end.ensures.value, c.loop-i.auto.i-end)) c.held_end-end.ensures.end c.loop-i.invariant
