use Rattle.std.proofs.Common.{arith}
use Rattle.border_climb.proofs.Ways.{named-found}
use Rattle.border_climb.proofs.climbing.noted.Goals as goal

pub returns-then-rank-r-clause-named : goal.returns-then-rank-r-clause-named
returns-then-rank-r-clause-named c = named-found c.args.region.now c.args.note c.in_ok-hint.hint c.in_ok-entry.entry.cell c.in_ok-hint.was c.in_ok-entry.ensures.found (omega arith)
