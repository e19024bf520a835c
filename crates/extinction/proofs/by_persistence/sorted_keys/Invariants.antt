use Rattle.std.proofs.Common.{◌≡◌, map}
use Rattle.std.specs.List.{range_with_len}
use Rattle.edge_order.specs.Tables.{key}
use Rattle.extinction.proofs.PersistenceRanks.{weighed}
use Rattle.extinction.proofs.by_persistence.sorted_keys.Given as goal

-- the keys so far
abbrev pub invariant-loop-place : goal.invariant-loop-place
invariant-loop-place l = l.keys.items ≡ map (key (weighed l.persistences)) (range_with_len 0 l.place)
