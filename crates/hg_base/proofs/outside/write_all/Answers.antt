use Rattle.std.proofs.Common.{rules}
use Rattle.hg_base.proofs.OutsideLemmas.{Appends-more}
use Rattle.hg_base.proofs.outside.write_all.Goals as goal

pub loop-at-preserved : goal.loop-at-preserved
loop-at-preserved g c =
    (search rules, Appends-more _ _ _ _ _ _ c.loop-at.invariant.1 c.in_ok-at.ensures.bytes, search rules)
