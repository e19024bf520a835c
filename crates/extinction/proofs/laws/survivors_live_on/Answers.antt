use Rattle.extinction.proofs.SurvivorLemmas.{survivor-both, survivor-first, survivor-second, survivor-own, survivor-zero}
use Rattle.extinction.proofs.laws.survivors_live_on.Goals as goal

pub returns-clause-both : goal.returns-clause-both
returns-clause-both c t m values i f hi h = survivor-both t m values f i hi h

pub returns-clause-first : goal.returns-clause-first
returns-clause-first c t m values i f hi p q = survivor-first t m values f i hi p q

pub returns-clause-second : goal.returns-clause-second
returns-clause-second c t m values i f hi p q = survivor-second t m values f i hi p q

pub returns-clause-own : goal.returns-clause-own
returns-clause-own c t m values i f hi p q = survivor-own t m values f i hi p q

pub returns-clause-none : goal.returns-clause-none
returns-clause-none c t m values i f hi = survivor-zero t m values f i hi
