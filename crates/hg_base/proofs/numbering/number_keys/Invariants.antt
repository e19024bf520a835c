use Rattle.std.proofs.Common.{◌≡◌, length, map}
use Rattle.std.specs.List.{range_with_len}
use Rattle.hg_base.specs.Numbering.{key_label, AreNumbers}
use Rattle.hg_base.proofs.numbering.number_keys.Given as goal

-- the numbers so far are labelled
abbrev pub invariant-loop-x : goal.invariant-loop-x
invariant-loop-x l = record {
  one_each : length l.numbers.items ≡ l.bound;
  noted : AreNumbers l.keys l.x l.numbers.items l.count;
  labels : l.labels.items ≡ map (key_label l.keys) (range_with_len 0 l.x);
}
