use Rattle.std.proofs.Common.{◌≡◌, ◌-◌, map, get_or}
use Rattle.std.specs.List.{range_with_len}
use Rattle.attributes.specs.Attributes.{altitude_over}
use Rattle.attributes.proofs.table.dynamics.Given as goal

-- the nodes so far have their dynamics
abbrev pub invariant-loop-i : goal.invariant-loop-i
invariant-loop-i l = l.dynamics.items ≡ map (λ i. altitude_over l.tree i - get_or l.lowest i 0) (range_with_len 0 l.i)
