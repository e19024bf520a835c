use Rattle.std.proofs.Common.{◌≡◌, ◌++◌, map}
use Rattle.std.specs.List.{range_with_len}
use Rattle.node_region.specs.Pool.{count}
use Rattle.partition_tree.specs.CellNodes.{inner_parent}
use Rattle.partition_tree.proofs.parents.push_inner_parents.Given as goal

-- the parents of the inner nodes so far
abbrev pub invariant-loop-i : goal.invariant-loop-i
invariant-loop-i l = l.parents.items ≡ l.fn.parents.items ++ map (inner_parent (count l.part.region) l.part.region l.numbering.made.items l.numbering.numbers.items) (range_with_len 0 l.i)
