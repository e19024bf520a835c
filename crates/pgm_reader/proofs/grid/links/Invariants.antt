use Rattle.std.proofs.Common.{◌≡◌, ◌++◌, map}
use Rattle.std.specs.List.{flat_map, range_with_len}
use Rattle.pgm_reader.specs.Grid.{right_of, below_of, link_of}
use Rattle.pgm_reader.proofs.grid.links.Given as goal

abbrev pub invariant-loop-pixel : goal.invariant-loop-pixel
invariant-loop-pixel l = map link_of l.edges.items ≡ flat_map (λ i. right_of l.width i ++ below_of l.width l.height i) (range_with_len 0 l.pixel)
