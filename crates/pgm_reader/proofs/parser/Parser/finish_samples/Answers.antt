use Rattle.std.proofs.Common.{◌≡◌, ◌*◌, ◌<◌, length, arith}
use Rattle.pgm_reader.proofs.Endings.{samples-last, samples-all}
use Rattle.pgm_reader.proofs.parser.Parser.finish_samples.Goals as goal

pub returns-then-len-pixels-clause-read : goal.returns-then-len-pixels-clause-read
returns-then-len-pixels-clause-read c =
    let s = c.self.inside in
    let pixels = rw (← c.self.view_is) at c.pixels.ensures in
    let all : length s.samples.items ≡ s.width * s.height = omega (arith, s.samples.ok, c.if-len-pixels.true, c.len.ensures, pixels) in
    rw (c.new.ensures, ← c.self.view_is) (samples-all _ c.args.end (rw (← c.self.view_is) at c.requires) all)

pub returns-else-len-pixels-clause-read : goal.returns-else-len-pixels-clause-read
returns-else-len-pixels-clause-read c =
    let s = c.self.inside in
    let stage = rw (← c.self.view_is) at c.requires in
    let keeps = rw stage at c.self.invariant in
    let pixels = rw (← c.self.view_is) at c.pixels.ensures in
    let some : length s.samples.items < s.width * s.height = omega (arith, s.samples.ok, keeps.so_far, c.if-len-pixels.false, c.len.ensures, pixels) in
    rw (c.truncated.ensures, ← c.self.view_is) (samples-last _ c.args.end stage some)
