-- What serving a board does to a list of its seats.
use Rattle.std.specs.Prelude.{◌≡◌, ℕ, List, All, map}
use Rattle.merge_board.specs.Seats.{SeatState, BoardState, IsSeatOf, IsReady, IsDone}

-- the numbers of the seats, in order
abbrev pub seat_numbers : List SeatState → List ℕ
seat_numbers seats = map (λ seat. seat.view.number) seats

-- seats of this board that are idle and have not missed
abbrev pub AreReady : List SeatState → BoardState → Type 0
AreReady seats board = All (λ seat. IsSeatOf seat board) seats × All IsReady seats

-- the same seats after each has served the board
abbrev pub AreServed : List SeatState → List SeatState → BoardState → Type 0
AreServed old new board = All (λ seat. IsSeatOf seat board) new × All IsDone new × (seat_numbers new ≡ seat_numbers old)
