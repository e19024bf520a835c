use Rattle.std.proofs.Common.{◌≡◌, map}
use Rattle.std.specs.List.{range_with_len}
use Rattle.component_tree.specs.NodeComponents.{parent_of_leaf}
use Rattle.component_tree.proofs.components.leaf_parents.Given as goal

-- the leaves so far have their parents
abbrev pub invariant-loop-x : goal.invariant-loop-x
invariant-loop-x l = l.parents.items ≡ map (parent_of_leaf l.tree l.places) (range_with_len 0 l.x)
