use Rattle.std.proofs.Common.{◌∙◌}
use Rattle.pgm_reader.proofs.Decoding.{sized-exact}
use Rattle.pgm_reader.proofs.decoder.PictureDecoder.is_sized.Goals as goal

pub returns-clause-exact : goal.returns-clause-exact
returns-clause-exact c = λ bytes read. c.is_settled.ensures c.self.inside.taken ∙ sized-exact _ bytes (rw (← c.self.view_is) at read)
