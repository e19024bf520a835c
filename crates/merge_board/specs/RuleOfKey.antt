-- The rule of a board, and the first seat's view, by the key that its table is told once.
use Rattle.std.specs.Prelude.{Option}
use Rattle.atomic_table.specs.Table.{State}
use Rattle.border_climb.specs.Stands.{PartState}
use Rattle.merge_board.specs.Board.{IsBoard}
use Rattle.merge_board.specs.Seats.{first_view}
use Rattle.merge_board.specs.declared.view.View.{View}
use Rattle.merge_board.specs.declared.view.Key.{Key}

-- the rule of the board of the key's plan and workers
abbrev pub rule_of : Key → State (Option PartState) View → Type 0
rule_of key s = IsBoard key.plan.value key.workers s

-- the view of the first seat, which stands for all workers
abbrev pub first_of : Key → View
first_of key = first_view key.plan.value key.workers
