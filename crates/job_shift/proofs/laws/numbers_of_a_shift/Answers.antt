use Rattle.job_shift.proofs.Numbers.{pairs_are_jobs, pairs_are_distinct, pairs_are_all, none_handed_out}
use Rattle.job_shift.proofs.laws.numbers_of_a_shift.Goals as goal

pub returns-clause-jobs : goal.returns-clause-jobs
returns-clause-jobs c = pairs_are_jobs

pub returns-clause-distinct : goal.returns-clause-distinct
returns-clause-distinct c = pairs_are_distinct

pub returns-clause-all : goal.returns-clause-all
returns-clause-all c = pairs_are_all

pub returns-clause-none : goal.returns-clause-none
returns-clause-none c = none_handed_out
