use Rattle.edge_laws.proofs.Renaming.{joins-renamed, chain-renamed}
use Rattle.edge_laws.proofs.laws.chains_under_other_names.Goals as goal

pub returns-clause-joining : goal.returns-clause-joining
returns-clause-joining c = λ n f s one within. joins-renamed n f one s within

pub returns-clause-chains : goal.returns-clause-chains
returns-clause-chains c = λ n f s x one within lt. chain-renamed n f one s within x lt
