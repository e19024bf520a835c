use Rattle.edge_laws.proofs.Components.{joins-count}
use Rattle.edge_laws.proofs.laws.joining_edges_and_components.Goals as goal

pub returns : goal.returns
returns c = joins-count
