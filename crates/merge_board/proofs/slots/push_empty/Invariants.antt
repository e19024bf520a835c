use Rattle.std.proofs.Common.{◌≡◌, ◌+◌, ◌-◌, ◌≤◌, ◌++◌, length, replicate}
use Rattle.std.specs.Prelude.{None, vec_capacity}
use Rattle.merge_board.proofs.slots.push_empty.Given as goal

abbrev pub invariant-loop : goal.invariant-loop
invariant-loop l = record {
  items : l.slots.items ≡ l.initial.slots.items ++ replicate l.counter None;
  places : length l.slots.items + (l.count - l.counter) ≤ vec_capacity l.slots;
}
