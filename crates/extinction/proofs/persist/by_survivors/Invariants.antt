use Rattle.std.proofs.Common.{◌≡◌, ◌+◌, ◌-◌, map}
use Rattle.std.specs.List.{range_with_len}
use Rattle.extinction.specs.Values.{attribute_values}
use Rattle.extinction.specs.Persistence.{persistence}
use Rattle.extinction.proofs.persist.by_survivors.Given as goal

-- the inner nodes so far have their persistences
abbrev pub invariant-loop-i : goal.invariant-loop-i
invariant-loop-i l = l.values.items ≡ map (λ k. persistence l.tree l.minima (attribute_values l.kind l.attributes) (l.tree.leaves + k)) (range_with_len 0 (l.i - l.leaves))
