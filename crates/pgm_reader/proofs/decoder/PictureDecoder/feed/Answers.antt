use Rattle.std.proofs.Common.{sym, ◌∙◌, ◌++◌, take, arith, append_assoc}
use Rattle.std.proofs.lemmas.List.{take_more}
use Rattle.pgm_reader.proofs.Decoding.{read-more, read-over}
use Rattle.pgm_reader.proofs.decoder.PictureDecoder.feed.Goals as goal

pub loop-b-preserved : goal.loop-b-preserved
loop-b-preserved c = record {
  taken = omega (arith, c.read.ensures.taken, c.loop-b.invariant.taken);
  read = λ bytes read.
      let before = bytes ++ take c.loop-b.b-index c.args.piece.now in
      rw (take_more c.args.piece.now c.loop-b.b-index 0 c.loop-b-test.true, ← append_assoc)
      (read-more c.loop-b.self c.read.new.self _ before c.read.ensures.taken c.read.ensures.byte (c.loop-b.invariant.read bytes read));
  stays = λ out. c.read.ensures.byte.out (c.loop-b.invariant.stays out);
  sized = λ sized.
      let before = c.loop-b.invariant.sized sized in
      let after = c.read.ensures.byte.sized before.0 in
      (rw c.read.ensures.taken after.0, after.1 ∙ before.1);
}

pub returns-then-is_over-clause-read : goal.returns-then-is_over-clause-read
returns-then-is_over-clause-read c = λ bytes read. read-over _ c.args.piece.now bytes (sym c.if-is_over.ensures) (rw (← c.self.view_is) at read)
