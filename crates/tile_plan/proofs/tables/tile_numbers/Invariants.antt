use Rattle.tile_plan.specs.Grids.{tile_in}
use Rattle.tile_plan.specs.Placing.{IsTable}
use Rattle.tile_plan.proofs.tables.tile_numbers.Given as goal

abbrev pub invariant-loop-place : goal.invariant-loop-place
invariant-loop-place l = IsTable (tile_in l.grid) l.place l.numbers.items
