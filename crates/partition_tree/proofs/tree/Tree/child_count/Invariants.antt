use Rattle.std.proofs.Common.{◌≡◌}
use Rattle.hg_base.specs.Counting.{count_below}
use Rattle.partition_tree.specs.Children.{is_child}
use Rattle.partition_tree.proofs.tree.Tree.child_count.Given as goal

-- the children among the nodes so far
abbrev pub invariant-loop-j : goal.invariant-loop-j
invariant-loop-j l = l.count ≡ count_below (is_child l.self l.i) l.j
