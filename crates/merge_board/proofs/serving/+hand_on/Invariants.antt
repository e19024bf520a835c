use Rattle.std.proofs.Common.{◌-◌}
use Rattle.tile_plan.specs.Plan.{part_count}
use Rattle.merge_board.proofs.serving.+hand_on.Given as goal

abbrev pub decreases-hand_on : goal.decreases-hand_on
decreases-hand_on g l = part_count l.board.now.plan - l.number
