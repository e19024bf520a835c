-- What the fields of a board hold.
use Rattle.std.specs.Prelude.{◌≡◌, ◌+◌, ◌≤◌}
use Rattle.tile_plan.specs.Plan.{IsPlan, tile_count, part_count}
use Rattle.merge_board.specs.Seats.{BoardState}
use Rattle.merge_board.specs.declared.board.Board.TheInside as board

abbrev pub board_of : board.Inside → BoardState
board_of b = record { table = b.table.shared.table_id; plan = b.table.shared.key.plan.value; workers = b.table.shared.key.workers }

-- the table has a word for the draws and one for each merge and the root's arrival, and a slot for each part
pub record IsBoardTable (b : board.Inside) : Type 0 where
  pub plan : IsPlan b.table.shared.key.plan.value
  pub words : b.table.shared.table_id.words ≡ tile_count b.table.shared.key.plan.value + 1
  pub slots : b.table.shared.table_id.slots ≡ part_count b.table.shared.key.plan.value
  pub workers : b.workers ≡ b.table.shared.key.workers
  pub some_worker : 1 ≤ b.workers
  pub few_workers : b.workers ≤ 64
