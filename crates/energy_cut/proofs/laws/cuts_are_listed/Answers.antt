use Rattle.energy_cut.proofs.Listed.{cuts-from, cuts-to}
use Rattle.energy_cut.proofs.laws.cuts_are_listed.Goals as goal

pub returns : goal.returns
returns c = λ t d f. (cuts-to t f d, cuts-from t f d)
