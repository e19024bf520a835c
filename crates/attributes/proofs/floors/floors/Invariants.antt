use Rattle.std.proofs.Common.{◌≡◌, map}
use Rattle.std.specs.List.{range_with_len}
use Rattle.attributes.specs.Attributes.{floor}
use Rattle.attributes.proofs.floors.floors.Given as goal

-- the vertices so far have their floors
abbrev pub invariant-loop-x : goal.invariant-loop-x
invariant-loop-x l = l.floors.items ≡ map (floor l.graph) (range_with_len 0 l.x)
