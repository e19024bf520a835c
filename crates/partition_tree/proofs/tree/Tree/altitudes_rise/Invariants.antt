use Rattle.std.proofs.Common.{ℕ, ◌<◌, ◌≤◌}
use Rattle.tree_laws.specs.Tree.{parent, altitude}
use Rattle.partition_tree.proofs.tree.Tree.altitudes_rise.Given as goal

-- no altitude of a node so far exceeds its parent's
abbrev pub invariant-loop-i : goal.invariant-loop-i
invariant-loop-i l = (j : ℕ) → j < l.i → altitude l.self j ≤ altitude l.self (parent l.self j)
