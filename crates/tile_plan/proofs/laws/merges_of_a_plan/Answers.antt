use Rattle.tile_plan.proofs.Edges.{joins_halves, crosses}
use Rattle.tile_plan.proofs.laws.merges_of_a_plan.Goals as goal

pub returns-clause-joins : goal.returns-clause-joins
returns-clause-joins c = joins_halves

pub returns-clause-crosses : goal.returns-clause-crosses
returns-clause-crosses c = crosses
