use Rattle.std.proofs.Common.{arith}
use Rattle.job_shift.proofs.Joining.{may_join}
use Rattle.job_shift.proofs.finishing.take_in.Goals as goal

pub join_seat-requires : goal.join_seat-requires
join_seat-requires c = (
  c.requires.table.0,
  c.requires.table.1,
  c.requires.slots,
  (let w = c.requires.word in omega arith),
  may_join c.args.table.now.shared.key.count c.args.table.now.shared.key.workers c.args.token.now.id c.args.other.id c.args.token.now.me.0 c.args.other.me.0 c.requires.missed.0 c.requires.missed.1 c.requires.share,
)
