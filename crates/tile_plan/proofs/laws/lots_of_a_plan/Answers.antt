use Rattle.tile_plan.proofs.Edges.{lot-of-edge, ranks-once, has_edges}
use Rattle.tile_plan.proofs.laws.lots_of_a_plan.Goals as goal

pub returns-clause-each : goal.returns-clause-each
returns-clause-each c = lot-of-edge

pub returns-clause-once : goal.returns-clause-once
returns-clause-once c = ranks-once

pub returns-clause-edges : goal.returns-clause-edges
returns-clause-edges c = has_edges
