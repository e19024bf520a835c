use Rattle.watershed_cut.proofs.ForestWalks.{reaches-walks, forest-walks}
use Rattle.watershed_cut.proofs.laws.forest_by_walks.Goals as goal

pub returns-clause-reaches : goal.returns-clause-reaches
returns-clause-reaches c = reaches-walks

pub returns-clause-edges : goal.returns-clause-edges
returns-clause-edges c = forest-walks
