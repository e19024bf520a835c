use Rattle.std.proofs.Common.{◌≡◌, map}
use Rattle.std.specs.Prelude.{filter}
use Rattle.std.specs.List.{range_with_len}
use Rattle.component_tree.specs.NodeComponents.{is_component, component_of}
use Rattle.component_tree.proofs.nodes.by_node.Given as goal

-- the components of the nodes so far are there
abbrev pub invariant-loop-i : goal.invariant-loop-i
invariant-loop-i l = l.list.items ≡ map (component_of l.levels l.leasts) (filter (is_component l.tree l.levels) (range_with_len 0 l.i))
