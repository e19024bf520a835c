use Rattle.merge_board.proofs.Undrawn.{none_drawn}
use Rattle.merge_board.proofs.laws.boards_with_no_draw.Goals as goal

pub returns : goal.returns
returns c = none_drawn
