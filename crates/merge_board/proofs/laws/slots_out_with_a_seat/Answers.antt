use Rattle.merge_board.proofs.Turns.{seat_out, slot_free}
use Rattle.merge_board.proofs.laws.slots_out_with_a_seat.Goals as goal

pub returns-clause-seat : goal.returns-clause-seat
returns-clause-seat c = seat_out

pub returns-clause-free : goal.returns-clause-free
returns-clause-free c = slot_free
