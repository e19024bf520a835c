use Rattle.extinction.proofs.LevelZero.{hierarchy-forest, hierarchy-rises}
use Rattle.extinction.proofs.laws.hierarchical_is_well_formed.Goals as goal

pub returns-clause-well_formed : goal.returns-clause-well_formed
returns-clause-well_formed c g kind h = hierarchy-forest g h kind

pub returns-clause-rises : goal.returns-clause-rises
returns-clause-rises c g kind h = hierarchy-rises g h kind
