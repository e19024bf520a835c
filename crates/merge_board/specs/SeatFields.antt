-- What the fields of a seat hold.
use Rattle.std.specs.Prelude.{◌≡◌, ℕ, ◌≤◌, ◌<◌, Some, None, true}
use Rattle.tile_plan.specs.Plan.{part_count}
use Rattle.merge_board.specs.Seats.{SeatState}
use Rattle.merge_board.specs.Steps.{AreTurns}
use Rattle.merge_board.specs.declared.seat.Seat.TheInside as seat

abbrev pub seat_of : seat.Inside → SeatState
seat_of s = record { table = s.token.table_id; view = s.token.me.0 }

-- the fields say what the view says, a seat that has missed is idle, and the slots that are out with the seat are those
-- of the part in its hand
pub record IsSeat (s : seat.Inside) : Type 0 where
  pub number : s.number ≡ s.token.me.0.number
  pub hand : s.hand ≡ s.token.me.0.hand
  pub missed : s.missed ≡ s.token.me.0.missed
  pub idle : s.token.me.0.missed ≡ true → s.token.me.0.hand ≡ None
  pub share : 1 ≤ s.token.me.0.share
  pub workers : s.token.me.0.workers ≤ 64
  pub part : (i : ℕ) → s.token.me.0.hand ≡ Some i → i < part_count s.token.me.0.plan
  pub turns : AreTurns s.token.me.0.plan s.token.me.0.hand s.token.me.1
