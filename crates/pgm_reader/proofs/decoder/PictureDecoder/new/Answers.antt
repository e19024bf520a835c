use Rattle.std.proofs.Common.{refl, ap}
use Rattle.pgm_reader.specs.Parsing.{Parsing}
use Rattle.pgm_reader.proofs.Decoding.{read-nothing}
use Rattle.pgm_reader.proofs.decoder.PictureDecoder.new.Goals as goal

pub returns-clause-read : goal.returns-clause-read
returns-clause-read c = read-nothing _ (ap (λ (p : Parsing). p.stage) c.new.ensures) refl
