use Rattle.std.proofs.Common.{◌≡◌, ◌≤◌, map, All}
use Rattle.std.specs.List.{range_with_len}
use Rattle.attributes.specs.Attributes.{area}
use Rattle.attributes.proofs.leaves.areas.Given as goal

-- the vertices so far have their areas, and none is too great
abbrev pub invariant-loop-x : goal.invariant-loop-x
invariant-loop-x l = record {
  so_far : l.areas.items ≡ map (area l.graph) (range_with_len 0 l.x);
  small : All (λ a. a ≤ 4096) l.areas.items;
}
