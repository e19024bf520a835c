use Rattle.std.proofs.Common.{◌≡◌, ◌≤◌}
use Rattle.hg_base.specs.Counting.{count_below}
use Rattle.partition_tree.specs.Children.{is_child}
use Rattle.partition_tree.proofs.tree.Tree.child.Given as goal

-- the children among the nodes so far are no more than come before the one that is asked for
abbrev pub invariant-loop-j : goal.invariant-loop-j
invariant-loop-j l = record {
  before : l.before ≡ count_below (is_child l.self l.i) l.j;
  few : l.before ≤ l.k;
}
