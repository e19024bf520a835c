use Rattle.std.proofs.Common.{◌≡◌, ◌*◌, arith}
use Rattle.pgm_reader.proofs.Grids.{links_pushed}
use Rattle.pgm_reader.proofs.grid.links.Goals as goal

pub loop-pixel-preserved : goal.loop-pixel-preserved
loop-pixel-preserved c = links_pushed c.args.width c.args.height c.loop-pixel.pixel _ _ _ c.loop-pixel.invariant c.in_ok-push_right.ensures c.in_ok-push_below.ensures

pub returns : goal.returns
returns c =
    let all : c.loop-pixel.pixel ≡ c.args.width * c.args.height = omega (arith, c.loop-pixel-test.false, c.loop-pixel.auto.pixel-end) in
    rw (← all) c.loop-pixel.invariant
