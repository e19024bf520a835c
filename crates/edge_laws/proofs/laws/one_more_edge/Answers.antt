use Rattle.edge_laws.proofs.Drops.{joins-redundant, chain-redundant, joins-new, joins-kept}
use Rattle.edge_laws.proofs.laws.one_more_edge.Goals as goal

pub returns-clause-redundant : goal.returns-clause-redundant
returns-clause-redundant c = λ e s h r. (joins-redundant e s h r, chain-redundant e s h r)

pub returns-clause-joins_itself : goal.returns-clause-joins_itself
returns-clause-joins_itself c = joins-new

pub returns-clause-replaces : goal.returns-clause-replaces
returns-clause-replaces c = λ e f s h needed i. joins-kept e s h needed f i
