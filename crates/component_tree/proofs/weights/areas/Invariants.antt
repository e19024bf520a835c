use Rattle.std.proofs.Common.{◌≡◌, take}
use Rattle.component_tree.proofs.weights.areas.Given as goal

-- the areas so far are there
abbrev pub invariant-loop-v : goal.invariant-loop-v
invariant-loop-v l = l.areas.items ≡ take l.v l.graph.areas
