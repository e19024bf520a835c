use Rattle.job_shift.proofs.Stepping.{may_step}
use Rattle.job_shift.proofs.laws.steps_keep_the_rule.Goals as goal

pub returns : goal.returns
returns c = may_step
