use Rattle.pgm_reader.proofs.Decoding.{answered}
use Rattle.pgm_reader.proofs.decoder.PictureDecoder.finish.Goals as goal

pub returns-clause-read : goal.returns-clause-read
returns-clause-read c = λ bytes read. answered c.finish.result _ bytes (rw (← c.self.view_is) at read) (λ memory. c.finish.ensures.read memory) (λ out. c.finish.ensures.memory.0 out)
