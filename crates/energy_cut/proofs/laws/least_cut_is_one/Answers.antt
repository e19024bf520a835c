use Rattle.energy_cut.proofs.Chosen.{least-is}
use Rattle.energy_cut.proofs.Listed.{least-one}
use Rattle.energy_cut.specs.Cuts.{least_cut_of}
use Rattle.energy_cut.proofs.laws.least_cut_is_one.Goals as goal

pub returns-clause-found : goal.returns-clause-found
returns-clause-found c = λ t e f. least-is t e f

pub returns-clause-only : goal.returns-clause-only
returns-clause-only c = λ t e d f l. least-one t e d (least_cut_of t e) f l (least-is t e f)
