use Rattle.job_shift.proofs.Answering.{closed_with_all}
use Rattle.job_shift.proofs.finishing.end.Goals as goal

pub returns : goal.returns
returns c =
    closed_with_all c.args.table.shared.key.count c.args.table.shared.key.workers c.args.token.id c.args.token.me.0 c.close_with-closed.result.words.items c.close_with-closed.result.slots.items
    c.close_with-closed.ensures.values.2 c.requires.missed c.requires.all
