use Rattle.std.proofs.Common.{◌≡◌, ◌++◌, ◌-◌, map}
use Rattle.std.specs.List.{range_with_len}
use Rattle.tree_laws.specs.Tree.{altitude}
use Rattle.component_tree.proofs.nodes.push_altitudes.Given as goal

-- the inner nodes so far have their altitudes
abbrev pub invariant-loop-i : goal.invariant-loop-i
invariant-loop-i l = l.levels.items ≡ l.initial.levels.items ++ map (altitude l.tree) (range_with_len l.tree.leaves (l.i - l.tree.leaves))
