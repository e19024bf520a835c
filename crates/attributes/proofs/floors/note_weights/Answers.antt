use Rattle.attributes.proofs.LightestEdges.{lightest_more}
use Rattle.attributes.proofs.floors.note_weights.Goals as goal

pub loop-e-preserved : goal.loop-e-preserved
loop-e-preserved c =
    lightest_more c.args.graph.now c.loop-e.e c.edge-edge.result c.loop-e.lightest c.lower.new.lightest _ c.loop-e.invariant c.edge-edge.ensures.value c.edge-edge.ensures.ends
    c.lower.ensures c.lower-in-loop-e.ensures
