use Rattle.std.proofs.Common.{◌≡◌, ◌++◌, map, take}
use Rattle.component_tree.specs.declared.nodes.Component.{Component}
use Rattle.component_tree.specs.MinTree.{turned}
use Rattle.component_tree.proofs.components.push_levels.Given as goal

-- the components so far have their levels
abbrev pub invariant-loop-component : goal.invariant-loop-component
invariant-loop-component l = l.levels.items ≡ l.initial.levels.items ++ map (λ (c : Component). turned l.side c.level) (take l.component-index l.list)
