use Rattle.graph_reader.proofs.Decoding.{sized-exact}
use Rattle.graph_reader.proofs.decoder.Decoder.is_sized.Goals as goal

pub returns-clause-exact : goal.returns-clause-exact
returns-clause-exact c = λ bytes read. rw c.is_settled.ensures (sized-exact _ bytes (rw (← c.self.view_is) at read))
