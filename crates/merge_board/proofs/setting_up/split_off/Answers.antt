use Rattle.std.proofs.Common.{rules, ◌≡◌, ◌+◌, ◌≤◌, false, None, arith}
use Rattle.merge_board.proofs.Joining.{may_split}
use Rattle.merge_board.proofs.setting_up.split_off.Goals as goal

pub split_seat-token-requires : goal.split_seat-token-requires
split_seat-token-requires c =
    let hand : c.seat.inside.token.me.0.hand ≡ None = search rules in
    let fresh : c.seat.inside.token.me.0.missed ≡ false = search rules in
    let all : c.seat.inside.token.me.0.share ≡ c.args.number + 1 = search rules in
    let share : 2 ≤ c.seat.inside.token.me.0.share = (let l = c.requires.left in omega arith) in (
      search rules,
      (let w = c.board.invariant.words in omega arith),
      may_split c.board.inside.table.shared.key.plan.value c.board.inside.table.shared.key.workers c.seat.inside.token.id c.seat.inside.token.me.0 hand fresh share,
    )
