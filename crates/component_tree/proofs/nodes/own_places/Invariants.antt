use Rattle.std.proofs.Common.{◌≡◌}
use Rattle.component_tree.proofs.Placing.{AreOwnTo}
use Rattle.component_tree.proofs.nodes.own_places.Given as goal

-- the components so far have their places
abbrev pub invariant-loop-component : goal.invariant-loop-component
invariant-loop-component l = record {
  count : l.place ≡ l.component-index;
  own : AreOwnTo l.tree l.list l.component-index l.places.items;
}
