use Rattle.std.proofs.Common.{◌≡◌, map}
use Rattle.std.specs.List.{range_with_len}
use Rattle.component_tree.specs.MinTree.{turned, value_at}
use Rattle.component_tree.proofs.nodes.levels.Given as goal

-- the leaves so far have their values
abbrev pub invariant-loop-x : goal.invariant-loop-x
invariant-loop-x l = l.levels.items ≡ map (λ x. turned l.side (value_at l.values x)) (range_with_len 0 l.x)
