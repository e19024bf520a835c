use Rattle.std.proofs.Common.{refl}
use Rattle.graph_reader.proofs.Decoding.{read-nothing}
use Rattle.graph_reader.proofs.decoder.Decoder.new.Goals as goal

pub returns-clause-read : goal.returns-clause-read
returns-clause-read c = rw c.new.ensures (read-nothing _ refl)
