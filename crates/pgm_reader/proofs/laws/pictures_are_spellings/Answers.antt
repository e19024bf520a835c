use Rattle.pgm_reader.proofs.Spelled.{spelled-read}
use Rattle.pgm_reader.proofs.Unspelled.{read-spelled}
use Rattle.pgm_reader.proofs.laws.pictures_are_spellings.Goals as goal

pub returns-clause-only : goal.returns-clause-only
returns-clause-only c = read-spelled

pub returns-clause-read : goal.returns-clause-read
returns-clause-read c = spelled-read
