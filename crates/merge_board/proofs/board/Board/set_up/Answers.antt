use Rattle.std.proofs.Common.{◌≡◌, ℕ, List, map, ap, sym, subst, ◌∙◌}
use Rattle.std.specs.Prelude.{All, reverse}
use Rattle.std.specs.List.{range_with_len}
use Rattle.merge_board.specs.Seats.{SeatState, AreAllSeats, IsReady}
use Rattle.merge_board.specs.Opening.{IsUndrawn}
use Rattle.merge_board.proofs.Setting.{fresh_all, fresh_ready, fresh_numbers, fresh_unseen}
use Rattle.merge_board.proofs.Undrawn.{fresh_undrawn}
use Rattle.merge_board.proofs.board.Board.set_up.Goals as goal

pub returns-clause-seats : goal.returns-clause-seats
returns-clause-seats c = subst (λ (l : List SeatState). AreAllSeats l c.in_ok-board.board) (sym c.dealt-seats.ensures) (fresh_all c.in_ok-board.board)

pub returns-clause-ready : goal.returns-clause-ready
returns-clause-ready c = subst (λ (l : List SeatState). All IsReady l) (sym c.dealt-seats.ensures) (fresh_ready c.in_ok-board.board)

pub returns-clause-numbers : goal.returns-clause-numbers
returns-clause-numbers c =
    ap (λ (l : List SeatState). map (λ (seat : SeatState). seat.view.number) l) c.dealt-seats.ensures ∙ fresh_numbers c.in_ok-board.board
    ∙ ap (λ (n : ℕ). reverse (range_with_len 0 n)) c.in_ok-board.ensures.workers

pub returns-clause-unseen : goal.returns-clause-unseen
returns-clause-unseen c = subst (λ (l : List SeatState). All (λ (seat : SeatState). seat.view.seen ≡ 0) l) (sym c.dealt-seats.ensures) (fresh_unseen c.in_ok-board.board)

pub returns-clause-undrawn : goal.returns-clause-undrawn
returns-clause-undrawn c = subst (λ (l : List SeatState). IsUndrawn c.in_ok-board.board l) (sym c.dealt-seats.ensures) (fresh_undrawn c.in_ok-board.board)
