use Rattle.energy_cut.proofs.Sums.{energies-fit, cut-fits}
use Rattle.energy_cut.proofs.laws.energies_fit.Goals as goal

pub returns-clause-of_nodes : goal.returns-clause-of_nodes
returns-clause-of_nodes c = λ t areas penalty small low fits. energies-fit t areas penalty small low fits

pub returns-clause-of_cuts : goal.returns-clause-of_cuts
returns-clause-of_cuts c = λ t e d f small k. cut-fits t e d f small k
