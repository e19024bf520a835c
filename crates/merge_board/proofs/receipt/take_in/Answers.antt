use Rattle.std.proofs.Common.{rules, ◌≡◌, true, None, arith}
use Rattle.merge_board.proofs.HeldSlots.{idle_turns}
use Rattle.merge_board.proofs.Joining.{may_join}
use Rattle.merge_board.proofs.receipt.take_in.Goals as goal

-- src/receipt.rt:119:5
pub join_seat-requires : goal.join_seat-requires
join_seat-requires c =
    let hand : c.seat.inside.token.me.0.hand ≡ None = search rules in
    let missed : c.seat.inside.token.me.0.missed ≡ true = search rules in
    let other_hand : c.other.inside.token.me.0.hand ≡ None = search rules in
    let other_missed : c.other.inside.token.me.0.missed ≡ true = search rules in (
      search rules,
      search rules,
      idle_turns c.other.inside.token.me.0.plan c.other.inside.token.me.0.hand c.other.inside.token.me.1 other_hand c.other.invariant.turns,
      (let w = c.board.invariant.words in omega arith),
      may_join c.board.inside.table.shared.key.plan.value c.board.inside.table.shared.key.workers c.seat.inside.token.id c.other.inside.token.id c.seat.inside.token.me.0 c.other.inside.token.me.0 hand missed other_hand other_missed c.seat.invariant.share,
    )
