use Rattle.std.proofs.Common.{◌≡◌, map}
use Rattle.std.specs.List.{range_with_len}
use Rattle.edge_order.specs.Keys.{unpacked}
use Rattle.edge_order.specs.Tables.{key}
use Rattle.edge_order.proofs.order.keys.Given as goal

abbrev pub invariant-loop-number : goal.invariant-loop-number
invariant-loop-number l = map unpacked l.keys.items ≡ map (key l.graph) (range_with_len 0 l.number)
