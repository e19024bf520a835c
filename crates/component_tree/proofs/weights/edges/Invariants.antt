use Rattle.std.proofs.Common.{◌≡◌, map, take}
use Rattle.component_tree.specs.Weighed.{weighed_edge}
use Rattle.component_tree.proofs.weights.edges.Given as goal

-- the edges so far are weighed
abbrev pub invariant-loop-e : goal.invariant-loop-e
invariant-loop-e l = l.edges.items ≡ map (weighed_edge l.side l.values) (take l.e l.graph.edges)
