use Rattle.edge_laws.proofs.LawForms.{meets-where_joined}
use Rattle.edge_laws.proofs.laws.joined_where_chains_meet.Goals as goal

pub returns : goal.returns
returns c = meets-where_joined
