use Rattle.job_shift.proofs.Joining.{may_split, may_join}
use Rattle.job_shift.proofs.laws.hands_keep_the_rule.Goals as goal

pub returns-clause-split : goal.returns-clause-split
returns-clause-split c = may_split

pub returns-clause-join : goal.returns-clause-join
returns-clause-join c = may_join
