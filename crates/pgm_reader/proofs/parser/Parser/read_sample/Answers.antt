use Rattle.std.proofs.Common.{◌≡◌, ◌*◌, ◌<◌, length, true, arith}
use Rattle.std.specs.Prelude.{nat_lt}
use Rattle.pgm_reader.proofs.BytesRead.{reads-trailing, reads-one, reads-high}
use Rattle.pgm_reader.proofs.parser.Parser.read_sample.Goals as goal

pub returns-then-len-pixels : goal.returns-then-len-pixels
returns-then-len-pixels c =
    let s = c.self.inside in
    let pixels = rw (← c.self.view_is) at c.pixels.ensures in
    let all : length s.samples.items ≡ s.width * s.height = omega (arith, s.samples.ok, c.if-len-pixels.true, c.len.ensures, pixels) in
    rw (← c.self.view_is) (reads-trailing _ c.args.place c.args.b (rw (← c.self.view_is) at c.requires) all)

pub returns-then-self-lt256 : goal.returns-then-self-lt256
returns-then-self-lt256 c =
    let s = c.self.inside in
    let keeps = rw (rw (← c.self.view_is) at c.requires) at c.self.invariant in
    let pixels = rw (← c.self.view_is) at c.pixels.ensures in
    let left : length s.samples.items < s.width * s.height = omega (arith, s.samples.ok, keeps.so_far, c.if-len-pixels.false, c.len.ensures, pixels) in
    let small : nat_lt s.max 256 ≡ true = grind (arith, c.if-self-lt256.true) in
    rw (← c.self.view_is) (reads-one _ _ c.args.place c.args.b (rw (← c.self.view_is) at c.requires) (rw (← c.self.view_is, c.from.ensures) at c.take_sample.ensures) left small)

pub returns-else-self-lt256 : goal.returns-else-self-lt256
returns-else-self-lt256 c = rw (← c.self.view_is) (reads-high _ c.args.place c.args.b (rw (← c.self.view_is) at c.requires))
