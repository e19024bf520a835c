use Rattle.std.proofs.Common.{◌≡◌, ◌≤◌, ◌++◌, take, vec_capacity}
use Rattle.border_climb.proofs.part.put_behind.Given as goal

abbrev pub invariant-loop-number : goal.invariant-loop-number
invariant-loop-number l =
    (l.numbers.items ≡ l.initial.numbers.items ++ take l.number-index l.behind) × (vec_capacity l.initial.numbers ≤ vec_capacity l.numbers)
