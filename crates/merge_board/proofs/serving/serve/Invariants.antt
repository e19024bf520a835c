use Rattle.std.proofs.Common.{◌≡◌, ◌-◌}
use Rattle.tile_plan.specs.Plan.{tile_count}
use Rattle.merge_board.specs.Seats.{IsSeatOf, IsReady}
use Rattle.merge_board.proofs.serving.serve.Given as goal

abbrev pub invariant-loop-part : goal.invariant-loop-part
invariant-loop-part g l = IsSeatOf l.seat l.board × (IsReady l.seat × (l.seat.view.number ≡ l.initial.seat.view.number))

abbrev pub decreases-loop-part : goal.decreases-loop-part
decreases-loop-part g l = tile_count l.board.plan - l.seat.view.seen
