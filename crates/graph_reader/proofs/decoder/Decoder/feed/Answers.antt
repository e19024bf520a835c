use Rattle.std.proofs.Common.{sym}
use Rattle.graph_reader.proofs.Decoding.{read-over}
use Rattle.graph_reader.proofs.decoder.Decoder.feed.Goals as goal

pub returns-then-is_over-clause-read : goal.returns-then-is_over-clause-read
returns-then-is_over-clause-read c = λ bytes read. read-over _ c.args.piece.now bytes (sym c.if-is_over.ensures) (rw (← c.self.view_is) at read)
