use Rattle.edge_laws.proofs.SideBySide.{chain-inside, chain-outside}
use Rattle.edge_laws.proofs.laws.lists_side_by_side.Goals as goal

pub returns-clause-inside : goal.returns-clause-inside
returns-clause-inside c = chain-inside

pub returns-clause-outside : goal.returns-clause-outside
returns-clause-outside c = chain-outside
