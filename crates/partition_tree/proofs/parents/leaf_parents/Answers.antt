use Rattle.partition_tree.specs.CellNodes.{leaf_parent}
use Rattle.partition_tree.proofs.CellLemmas.{values-more}
use Rattle.partition_tree.proofs.parents.leaf_parents.Goals as goal

pub loop-vertex-preserved : goal.loop-vertex-preserved
loop-vertex-preserved g c =
    values-more (leaf_parent (g.E.Edges.place_at c.args.edges.now) c.args.part.now.region c.args.numbering.now.numbers.items) c.loop-vertex.parents.items c.push.new.self.items c.leaf_parent.result c.loop-vertex.vertex
    c.loop-vertex.invariant c.in_ok-push.ensures.items c.leaf_parent.ensures
