use Rattle.hg_base.proofs.OutsideLemmas.{moved-rest}
use Rattle.hg_base.proofs.memory.Remaining.give.Goals as goal

pub returns-clause-moved : goal.returns-clause-moved
returns-clause-moved c =
    rw (← c.self.view_is) (moved-rest _ _ _ _ _ c.deref.ensures.value c.copy_front.ensures.front)
