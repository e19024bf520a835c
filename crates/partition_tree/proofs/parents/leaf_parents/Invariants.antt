use Rattle.std.proofs.Common.{◌≡◌, map}
use Rattle.std.specs.List.{range_with_len}
use Rattle.partition_tree.specs.CellNodes.{leaf_parent}
use Rattle.partition_tree.proofs.parents.leaf_parents.Given as goal

-- a parent for each leaf so far
abbrev pub invariant-loop-vertex : goal.invariant-loop-vertex
invariant-loop-vertex g l = l.parents.items ≡ map (leaf_parent (g.E.Edges.place_at l.edges) l.part.region l.numbering.numbers.items) (range_with_len 0 l.vertex)
