use Rattle.edge_laws.proofs.Without.{joins-without, chain-without}
use Rattle.edge_laws.proofs.laws.what_joins_nothing_can_go.Goals as goal

pub returns-clause-joining : goal.returns-clause-joining
returns-clause-joining c = λ s t f apart rest idle without. joins-without s f t (record { apart = apart; rest = rest; idle = idle; without = without })

pub returns-clause-chains : goal.returns-clause-chains
returns-clause-chains c = λ s t f x apart rest idle without. chain-without s f t (record { apart = apart; rest = rest; idle = idle; without = without }) x
