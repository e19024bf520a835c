use Rattle.std.proofs.Common.{rules}
use Rattle.graph_reader.proofs.Decoding.{read-both}
use Rattle.input_tokens.proofs.QuietRuns.{take-both, take-rest}
use Rattle.graph_reader.proofs.decoder.read_piece.Goals as goal

pub loop-read-preserved : goal.loop-read-preserved
loop-read-preserved c = record {
  lexing = c.read_some-next.ensures.lexing;
  within = search rules;
  so_far = λ bytes read.
      let more = c.read_some-next.ensures.read _ (c.loop-read.invariant.so_far bytes read) in
      read-both _ _ _ _ _ bytes _ _ _ (take-both c.loop-read.read c.read_some-next.result.1 c.args.piece.now)
      (rw (take-rest c.loop-read.read c.args.piece.now) at more);
  keeps = search rules;
}
