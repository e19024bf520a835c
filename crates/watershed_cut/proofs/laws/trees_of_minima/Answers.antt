use Rattle.watershed_cut.proofs.ForestLaws.{forest-reach, forest-one, forest-long}
use Rattle.watershed_cut.proofs.laws.trees_of_minima.Goals as goal

pub returns-clause-reach : goal.returns-clause-reach
returns-clause-reach c = forest-reach

pub returns-clause-one : goal.returns-clause-one
returns-clause-one c = forest-one

pub returns-clause-length : goal.returns-clause-length
returns-clause-length c = forest-long
