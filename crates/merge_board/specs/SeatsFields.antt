-- What the field of the seats that are in holds.
use Rattle.std.specs.Prelude.{◌≤◌, List, length, vec_capacity}
use Rattle.merge_board.specs.Seats.{SeatState}
use Rattle.merge_board.specs.declared.seats.Seats.TheInside.{Inside}

abbrev pub seats_of : Inside → List SeatState
seats_of s = s.list.items

-- there is a place for each seat that a board can have
pub record HasPlaces (s : Inside) : Type 0 where
  pub places : 64 ≤ vec_capacity s.list
  pub few : length s.list.items ≤ 64
