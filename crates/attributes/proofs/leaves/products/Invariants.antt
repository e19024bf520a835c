use Rattle.std.proofs.Common.{◌≡◌, ◌*◌, map, get_or}
use Rattle.std.specs.List.{range_with_len}
use Rattle.attributes.proofs.leaves.products.Given as goal

-- the vertices so far have their products
abbrev pub invariant-loop-x : goal.invariant-loop-x
invariant-loop-x l = l.products.items ≡ map (λ x. get_or l.areas x 0 * get_or l.floors x 0) (range_with_len 0 l.x)
