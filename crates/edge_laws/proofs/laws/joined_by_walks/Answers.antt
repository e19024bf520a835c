use Rattle.edge_laws.proofs.Walks.{joined_is_Joined}
use Rattle.edge_laws.proofs.laws.joined_by_walks.Goals as goal

pub returns : goal.returns
returns c = joined_is_Joined
