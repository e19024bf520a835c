use Rattle.edge_laws.proofs.Ranked.{AreApart-ranked, AreWithin-ranked, IsIn-ranked}
use Rattle.edge_laws.proofs.laws.ranked_edges.Goals as goal

pub returns-clause-apart : goal.returns-clause-apart
returns-clause-apart c = AreApart-ranked

pub returns-clause-within : goal.returns-clause-within
returns-clause-within c = AreWithin-ranked

pub returns-clause-each : goal.returns-clause-each
returns-clause-each c = IsIn-ranked
