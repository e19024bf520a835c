use Rattle.edge_laws.proofs.Alike.{chain-ranks, alike-by_ranks, alike-more}
use Rattle.edge_laws.proofs.laws.lists_that_join_alike.Goals as goal

pub returns-clause-chains : goal.returns-clause-chains
returns-clause-chains c = chain-ranks

pub returns-clause-alike : goal.returns-clause-alike
returns-clause-alike c = alike-by_ranks

pub returns-clause-more : goal.returns-clause-more
returns-clause-more c = alike-more
