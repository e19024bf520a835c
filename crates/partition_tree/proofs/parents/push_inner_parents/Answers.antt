use Rattle.node_region.specs.Pool.{count}
use Rattle.partition_tree.specs.CellNodes.{inner_parent}
use Rattle.partition_tree.proofs.CellLemmas.{parents-more}
use Rattle.partition_tree.proofs.parents.push_inner_parents.Goals as goal

pub loop-i-preserved : goal.loop-i-preserved
loop-i-preserved c =
    parents-more (inner_parent (count c.args.part.now.region) c.args.part.now.region c.args.numbering.now.made.items c.args.numbering.now.numbers.items) c.args.parents.now.items c.loop-i.parents.items c.push.new.self.items c.inner_parent.result c.loop-i.i
    c.loop-i.invariant c.in_ok-push.ensures.items c.inner_parent.ensures
