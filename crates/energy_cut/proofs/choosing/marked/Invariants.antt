use Rattle.std.proofs.Common.{◌≡◌, get_or, false}
use Rattle.std.specs.Prelude.{filter}
use Rattle.std.specs.List.{range_with_len}
use Rattle.energy_cut.proofs.choosing.marked.Given as goal

-- the marked numbers so far
abbrev pub invariant-loop-i : goal.invariant-loop-i
invariant-loop-i l = l.nodes.items ≡ filter (λ i. get_or l.marks i false) (range_with_len 0 l.i)
