use Rattle.std.proofs.Common.{◌≡◌, map}
use Rattle.std.specs.List.{range_with_len}
use Rattle.tile_plan.specs.Grids.{row_of_part, part_in, tiles_in}
use Rattle.tile_plan.proofs.tables.parts.Given as goal

abbrev pub invariant-loop-part : goal.invariant-loop-part
invariant-loop-part l = l.parts.items ≡ map (λ i. row_of_part (tiles_in l.grid) (part_in l.grid i)) (range_with_len 0 l.part)
