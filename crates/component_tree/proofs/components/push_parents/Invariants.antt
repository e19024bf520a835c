use Rattle.std.proofs.Common.{◌≡◌, ◌++◌, map, take}
use Rattle.component_tree.specs.NodeComponents.{component_parent}
use Rattle.component_tree.proofs.components.push_parents.Given as goal

-- the components so far have their parents
abbrev pub invariant-loop-component : goal.invariant-loop-component
invariant-loop-component l = l.parents.items ≡ l.initial.parents.items ++ map (component_parent l.tree l.places) (take l.component-index l.list)
