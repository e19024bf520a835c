use Rattle.std.proofs.Common.{◌≡◌, get_or, false}
use Rattle.std.specs.Prelude.{filter}
use Rattle.std.specs.List.{range_with_len}
use Rattle.watershed_cut.proofs.find.numbers_of.Given as goal

-- the marked numbers so far
abbrev pub invariant-loop-e : goal.invariant-loop-e
invariant-loop-e l = l.numbers.items ≡ filter (λ e. get_or l.marks e false) (range_with_len 0 l.e)
