use Rattle.std.proofs.Common.{below_more}
use Rattle.saliency.proofs.roots.edges_share_roots.Goals as goal

pub loop-e-preserved : goal.loop-e-preserved
loop-e-preserved c = below_more _ _ c.loop-e.invariant (c.ends_share_root.ensures.0 c.if-not-ends_share_root.false)
