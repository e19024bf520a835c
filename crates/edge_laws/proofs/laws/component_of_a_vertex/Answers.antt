use Rattle.edge_laws.proofs.Exactly.{component-exactly, component-rises}
use Rattle.edge_laws.proofs.laws.component_of_a_vertex.Goals as goal

pub returns-clause-members : goal.returns-clause-members
returns-clause-members c = component-exactly

pub returns-clause-rising : goal.returns-clause-rising
returns-clause-rising c = component-rises
