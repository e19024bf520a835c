use Rattle.edge_laws.proofs.Sets.{joins-same, chain-same}
use Rattle.edge_laws.proofs.laws.chains_by_the_set_of_edges.Goals as goal

pub returns-clause-joining : goal.returns-clause-joining
returns-clause-joining c = joins-same

pub returns-clause-chains : goal.returns-clause-chains
returns-clause-chains c = chain-same
