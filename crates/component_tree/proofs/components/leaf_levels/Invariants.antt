use Rattle.std.proofs.Common.{◌≡◌, map}
use Rattle.std.specs.List.{range_with_len}
use Rattle.component_tree.specs.MinTree.{value_at}
use Rattle.component_tree.proofs.components.leaf_levels.Given as goal

-- the leaves so far have their levels
abbrev pub invariant-loop-x : goal.invariant-loop-x
invariant-loop-x l = l.levels.items ≡ map (value_at l.values) (range_with_len 0 l.x)
