use Rattle.pgm_reader.proofs.FirstFault.{first-fault, kept}
use Rattle.pgm_reader.proofs.laws.picture_faults_are_the_first.Goals as goal

pub returns-clause-found : goal.returns-clause-found
returns-clause-found c = first-fault

pub returns-clause-kept : goal.returns-clause-kept
returns-clause-kept c = kept
