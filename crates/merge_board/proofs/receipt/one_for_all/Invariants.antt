use Rattle.std.proofs.Common.{◌+◌, ◌≤◌, length, All}
use Rattle.merge_board.specs.Seats.{IsSeatOf, IsDone}
use Rattle.merge_board.proofs.receipt.one_for_all.Given as goal

abbrev pub invariant-loop-other : goal.invariant-loop-other
invariant-loop-other l = IsSeatOf l.seat l.board × (IsDone l.seat × (All (λ seat. IsSeatOf seat l.board) l.seats × (All IsDone l.seats × (length l.initial.seats + 1 ≤ l.seat.view.share + length l.seats))))

abbrev pub decreases-loop-other : goal.decreases-loop-other
decreases-loop-other l = length l.seats
