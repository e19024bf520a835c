use Rattle.std.proofs.Common.{◌≤◌}
use Rattle.std.specs.Prelude.{vec_capacity}
use Rattle.tile_plan.specs.Plan.{part_count}
use Rattle.merge_board.specs.Opening.{AreOpenedTiles}
use Rattle.merge_board.proofs.slots.opened_tiles.Given as goal

abbrev pub invariant-loop-tile : goal.invariant-loop-tile
invariant-loop-tile l = record { tiles : AreOpenedTiles l.plan l.tile l.slots.items; places : part_count l.plan ≤ vec_capacity l.slots }
