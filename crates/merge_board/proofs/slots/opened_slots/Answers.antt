use Rattle.std.proofs.Common.{◌≡◌, ◌-◌, arith}
use Rattle.tile_plan.specs.Plan.{tile_count}
use Rattle.merge_board.proofs.Doors.{some_plan}
use Rattle.merge_board.proofs.Setting.{all_slots}
use Rattle.merge_board.proofs.slots.opened_slots.Goals as goal

pub overflow_sub-merges : goal.overflow_sub-merges
overflow_sub-merges c = let a = some_plan c.args.plan.now c.tiles-merges.ensures.plan in omega arith

pub returns : goal.returns
returns c =
    let merges : c.tiles-merges.result - 1 ≡ tile_count c.args.plan.now - 1 = omega arith in
    all_slots c.args.plan.now c.in_ok-slots.slots.items c.push_empty.new.slots.items (c.tiles-merges.result - 1) (some_plan c.args.plan.now c.tiles-merges.ensures.plan) merges c.in_ok-slots.ensures.tiles c.push_empty.ensures
