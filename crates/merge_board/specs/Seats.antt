-- Seats: what contracts see of one, and how each step changes its view.
use Rattle.std.specs.Prelude.{◌≡◌, ℕ, ◌+◌, ◌-◌, List, [], length, map, reverse, All, max, Some, None, true, false}
use Rattle.std.specs.List.{range_with_len}
use Rattle.tile_plan.specs.Plan.{TilePlan}
use Rattle.atomic_table.specs.Seated.{TableId}
use Rattle.merge_board.specs.declared.view.View.{View}

-- A seat as contracts see it: which table it is of, and its view.
pub record SeatState : Type 0 where
  pub table : TableId
  pub view : View

-- A board as contracts see it: which table it has, its plan and its number of workers.
pub record BoardState : Type 0 where
  pub table : TableId
  pub plan : TilePlan
  pub workers : ℕ

-- the seat is of this board
pub record IsSeatOf (seat : SeatState) (board : BoardState) : Type 0 where
  pub table : seat.table ≡ board.table
  pub plan : seat.view.plan ≡ board.plan
  pub workers : seat.view.workers ≡ board.workers

-- the seat is idle, and has missed, or has not
abbrev pub IsReady : SeatState → Type 0
IsReady seat = (seat.view.hand ≡ None) × (seat.view.missed ≡ false)

abbrev pub IsDone : SeatState → Type 0
IsDone seat = (seat.view.hand ≡ None) × (seat.view.missed ≡ true)

-- A receipt as contracts see it: how many tiles, workers and edges the board had that was closed.
pub record ReceiptState : Type 0 where
  pub tiles : ℕ
  pub workers : ℕ
  pub edges : ℕ

-- all of the board's seats are in
pub record AreAllSeats (seats : List SeatState) (board : BoardState) : Type 0 where
  pub count : length seats ≡ board.workers
  pub each : All (λ seat. IsSeatOf seat board) seats

-- the plan without a vertex
abbrev pub no_plan : TilePlan
no_plan = record { frame = record { width = 0; height = 0; side = 0 }; edges = [] }

-- the first seat's view: it stands for all workers
abbrev pub first_view : TilePlan → ℕ → View
first_view p workers = record { number = 0; hand = None; missed = false; share = workers; seen = 0; plan = p; workers = workers; found = 0 }

-- a seat of one worker that has seen no step, and all seats of a board that is set up: number 0 is the last
abbrev pub fresh_seat : BoardState → ℕ → SeatState
fresh_seat board number = record { table = board.table; view = record { number = number; hand = None; missed = false; share = 1; seen = 0; plan = board.plan; workers = board.workers; found = 0 } }

abbrev pub fresh_seats : BoardState → List SeatState
fresh_seats board = map (fresh_seat board) (reverse (range_with_len 0 board.workers))

-- the view after drawing tile d, and after missing
abbrev pub drawn : View → ℕ → View
drawn v d = record v { hand = Some d; seen = d + 1; found = d }

abbrev pub missing : View → ℕ → View
missing v d = record v { missed = true; found = d }

-- the view after an arrival that found n: idle, or with the merge above in hand
abbrev pub idle : View → ℕ → View
idle v n = record v { hand = None; found = n }

abbrev pub with_merge : View → ℕ → ℕ → View
with_merge v m n = record v { hand = Some m; found = n }

-- the two views of a seat that is split: the second stands for one worker
abbrev pub split_left : View → View
split_left v = record v { share = v.share - 1 }

abbrev pub split_right : View → View
split_right v = record v { share = 1; seen = 0; number = v.share - 1 }

-- the view of two seats that are joined, and what is left over
abbrev pub joined_seats : View → View → View
joined_seats u v = record u { share = u.share + v.share; seen = max u.seen v.seen }

abbrev pub left_over : View
left_over = first_view no_plan 0
