use Rattle.watershed_cut.proofs.LabelLemmas.{level_labels_more}
use Rattle.watershed_cut.proofs.minima.edge_labels.Goals as goal

pub loop-e-preserved : goal.loop-e-preserved
loop-e-preserved c =
    level_labels_more c.args.graph.now c.args.tree.now c.args.vertices.now c.loop-e.e c.edge_label.result c.loop-e.labels.items c.push.new.self.items
    c.loop-e.invariant.0 c.loop-e.invariant.1 c.edge_label.ensures.ends c.edge_label.ensures.label c.in_ok-push.ensures.items
