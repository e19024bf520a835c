use Rattle.std.proofs.Common.{◌≡◌}
use Rattle.std.specs.Prelude.{count_by, ◌==◌}
use Rattle.std.specs.List.{range_with_len}
use Rattle.tree_laws.specs.Tree.{parent}
use Rattle.partition_tree.proofs.tree.Tree.roots.Given as goal

-- the roots among the nodes so far
abbrev pub invariant-loop-i : goal.invariant-loop-i
invariant-loop-i l = l.roots ≡ count_by (λ i. parent l.self i == i) (range_with_len 0 l.i)
