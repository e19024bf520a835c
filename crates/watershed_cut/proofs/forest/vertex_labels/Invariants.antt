use Rattle.std.proofs.Common.{◌≡◌, map, get_or}
use Rattle.std.specs.List.{range_with_len}
use Rattle.watershed_cut.proofs.forest.vertex_labels.Given as goal

-- the vertices so far have the labels of their nearest nodes
abbrev pub invariant-loop-x : goal.invariant-loop-x
invariant-loop-x l = l.labels.items ≡ map (λ x. get_or l.nodes.items (get_or l.near x 0) 0) (range_with_len 0 l.x)
