-- What the fields of a component tree stand for, and what they keep to.
use Rattle.std.specs.Prelude.{◌≡◌, ◌≤◌, length}
use Rattle.component_tree.specs.Components.{ComponentLists}
use Rattle.component_tree.specs.declared.tree.ComponentTree.TheInside.{Inside}

abbrev pub lists_of_tree : Inside → ComponentLists
lists_of_tree t = record { leaves = t.leaves; parents = t.parents.items; levels = t.levels.items }

-- each node has a level, and there are no more than 32 bits count
pub record AreComponentLists (t : ComponentLists) : Type 0 where
  pub one_level_each : length t.levels ≡ length t.parents
  pub few : length t.parents ≤ 4194304
