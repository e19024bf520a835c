use Rattle.border_climb.proofs.Writes.{replaced}
use Rattle.border_climb.proofs.splicing.replace.Goals as goal

pub returns-clause-ends : goal.returns-clause-ends
returns-clause-ends c = λ e s m. replaced c.args.region.now c.link.new.region c.give_back.new.self e s c.args.last c.args.id c.get-rank.result m c.get-rank.ensures c.link.ensures c.give_back.ensures
