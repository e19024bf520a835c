use Rattle.std.proofs.Common.{◌≤◌, arith}
use Rattle.std.specs.Prelude.{vec_capacity}
use Rattle.tile_plan.specs.Plan.{part_count}
use Rattle.merge_board.proofs.Doors.{some_plan}
use Rattle.merge_board.proofs.Setting.{more_tiles}
use Rattle.merge_board.proofs.slots.opened_tiles.Goals as goal

pub overflow_sub-parts : goal.overflow_sub-parts
overflow_sub-parts c = let a = some_plan c.args.plan.now c.tiles-tiles.ensures.plan in omega arith

pub loop-tile-preserved : goal.loop-tile-preserved
loop-tile-preserved c = record {
  tiles = more_tiles c.args.plan.now c.loop-tile.tile c.loop-tile.slots.items c.push_reserved.new.self.items c.in_ok-opened_tile.field-0 c.loop-tile.invariant.tiles c.in_ok-opened_tile.ensures c.push_reserved.ensures.items;
  places = (let a : part_count c.args.plan.now ≤ vec_capacity c.loop-tile.slots = c.loop-tile.invariant.places in omega (arith, c.push_reserved.ensures.capacity));
}
