use Rattle.std.proofs.Common.{arith}
use Rattle.partition_tree.specs.Children.{is_child}
use Rattle.partition_tree.proofs.ChildLemmas.{count-fits}
use Rattle.partition_tree.proofs.tree.Tree.child_count.Goals as goal

pub overflow_add-count : goal.overflow_add-count
overflow_add-count c = omega (arith, c.loop-j.invariant, count-fits (is_child c.args.self.now c.args.i) c.loop-j.j)
