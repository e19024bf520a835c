use Rattle.merge_board.proofs.Joining.{may_split, may_join}
use Rattle.merge_board.proofs.laws.seats_keep_the_rule.Goals as goal

pub returns-clause-split : goal.returns-clause-split
returns-clause-split c key = may_split key.plan.value key.workers

pub returns-clause-join : goal.returns-clause-join
returns-clause-join c key = may_join key.plan.value key.workers
