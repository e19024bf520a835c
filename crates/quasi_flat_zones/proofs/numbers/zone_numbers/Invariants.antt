use Rattle.std.proofs.Common.{◌≡◌, map}
use Rattle.std.specs.List.{range_with_len}
use Rattle.tree_laws.specs.Zones.{zone_number}
use Rattle.quasi_flat_zones.proofs.numbers.zone_numbers.Given as goal

-- the kept nodes so far are counted, and each node so far has its number
abbrev pub invariant-loop-i : goal.invariant-loop-i
invariant-loop-i l = record {
  counted : l.kept ≡ zone_number l.tree l.i;
  so_far : l.numbers.items ≡ map (zone_number l.tree) (range_with_len 0 l.i);
}
