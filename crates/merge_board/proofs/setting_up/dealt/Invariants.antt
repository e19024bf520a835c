use Rattle.std.proofs.Common.{◌≡◌, ◌+◌, ◌≤◌, length, ◌++◌}
use Rattle.merge_board.specs.Seats.{first_view, fresh_seats}
use Rattle.merge_board.proofs.Setting.{seats_down}
use Rattle.merge_board.proofs.setting_up.dealt.Given as goal

abbrev pub invariant-loop-share : goal.invariant-loop-share
invariant-loop-share l = record {
  some : 1 ≤ l.share;
  count : length l.seats + l.share ≡ l.board.workers;
  first : l.first ≡ record { table = l.board.table; view = record (first_view l.board.plan l.board.workers) { share = l.share } };
  seats : l.seats ++ seats_down l.board l.share ≡ fresh_seats l.board;
}

abbrev pub decreases-loop-share : goal.decreases-loop-share
decreases-loop-share l = l.share
