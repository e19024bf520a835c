use Rattle.watershed_cut.proofs.GraphForest.{forest-rooted}
use Rattle.watershed_cut.proofs.LeastForest.{forest-least}
use Rattle.watershed_cut.proofs.laws.least_forest.Goals as goal

pub returns-clause-rooted : goal.returns-clause-rooted
returns-clause-rooted c = forest-rooted

pub returns-clause-least : goal.returns-clause-least
returns-clause-least c = forest-least
