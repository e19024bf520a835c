use Rattle.border_climb.proofs.Ways.{ends-above}
use Rattle.border_climb.proofs.climbing.below.Goals as goal

pub returns-else-rank-r-clause-none : goal.returns-else-rank-r-clause-none
returns-else-rank-r-clause-none c = ends-above c.args.region.now c.args.link c.in_ok-id.id c.args.r c.entry-entry.result.cell c.in_ok-id.was c.entry-entry.ensures.cell c.if-rank-r.false
