use Rattle.watershed_cut.proofs.MinimumWalks.{is_minimum-walks, in_minimum-walks, same_minimum-walks, head-walks}
use Rattle.watershed_cut.proofs.ForestWalks.{label-zero, edge_label-zero}
use Rattle.watershed_cut.proofs.TreeLabels.{label-one}
use Rattle.watershed_cut.proofs.laws.minima_by_walks.Goals as goal

pub returns-clause-edges : goal.returns-clause-edges
returns-clause-edges c = is_minimum-walks

pub returns-clause-vertices : goal.returns-clause-vertices
returns-clause-vertices c = in_minimum-walks

pub returns-clause-same : goal.returns-clause-same
returns-clause-same c = same_minimum-walks

pub returns-clause-heads : goal.returns-clause-heads
returns-clause-heads c = head-walks

pub returns-clause-zero : goal.returns-clause-zero
returns-clause-zero c = label-zero

pub returns-clause-zero_edge : goal.returns-clause-zero_edge
returns-clause-zero_edge c = edge_label-zero

pub returns-clause-one_label : goal.returns-clause-one_label
returns-clause-one_label c = label-one
