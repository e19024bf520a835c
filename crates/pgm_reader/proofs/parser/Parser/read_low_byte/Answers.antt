use Rattle.std.proofs.Common.{◌≡◌, false, arith}
use Rattle.std.specs.Prelude.{nat_lt}
use Rattle.pgm_reader.proofs.BytesRead.{reads-low}
use Rattle.pgm_reader.proofs.parser.Parser.read_low_byte.Goals as goal

pub returns : goal.returns
returns c =
    let large : nat_lt c.args.self.now.max 256 ≡ false = grind (arith, c.requires.two_bytes) in
    reads-low _ _ c.args.high c.args.place c.args.b c.requires.stage (rw (c.from.ensures, c.from-2.ensures) at c.take_sample.ensures) c.requires.behind c.requires.left large
