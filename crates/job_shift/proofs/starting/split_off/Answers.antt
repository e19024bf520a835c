use Rattle.std.proofs.Common.{rules, ◌≡◌, ◌+◌, ◌≤◌, false, arith, []}
use Rattle.job_shift.proofs.Fresh.{no_pairs}
use Rattle.job_shift.proofs.Joining.{may_split}
use Rattle.job_shift.specs.Times.{jobs}
use Rattle.job_shift.proofs.starting.split_off.Goals as goal

pub split_seat-token-requires : goal.split_seat-token-requires
split_seat-token-requires c =
    let got : jobs c.hand.inside.token.me.0 ≡ [] = search rules in
    let fresh : c.hand.inside.token.me.0.missed ≡ false = search rules in
    let all : c.hand.inside.token.me.0.share ≡ c.args.number + 1 = search rules in
    let share : 2 ≤ c.hand.inside.token.me.0.share = (let l = c.requires.left in omega arith) in (
      search rules,
      (let w = c.shift.invariant.words in omega arith),
      may_split c.shift.inside.table.shared.key.count c.shift.inside.table.shared.key.workers c.hand.inside.token.id c.hand.inside.token.me.0 (no_pairs c.hand.inside.token.me.0.pairs got) fresh share,
    )
