use Rattle.std.proofs.Common.{◌≡◌, ◌-◌}
use Rattle.node_region.specs.Tables.{fresh_slots}
use Rattle.node_region.proofs.tables.fresh_slots.Given as goal

abbrev pub invariant-loop-id : goal.invariant-loop-id
invariant-loop-id l = l.slots.items ≡ fresh_slots l.first (l.id - l.first)
