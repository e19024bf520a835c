use Rattle.border_climb.proofs.Seams.{seam-climbable}
use Rattle.border_climb.proofs.Ways.{seen-read}
use Rattle.border_climb.proofs.Writes.{advanced, advanced-rises, read-seat}
use Rattle.border_climb.proofs.splicing.advance.Goals as goal

pub climb-next-requires-clause-climbable : goal.climb-next-requires-clause-climbable
climb-next-requires-clause-climbable c =
    let w = c.requires.seam in
    seam-climbable _ w.0 w.1.0 c.args.last c.args.low.met.id _ w.1.1 c.args.low.met.rank (read-seat _ c.args.low c.requires.low)

pub climb-next-requires-clause-seen : goal.climb-next-requires-clause-seen
climb-next-requires-clause-seen c =
    let w = c.requires.seam in
    seen-read _ c.args.low (seam-climbable _ w.0 w.1.0 c.args.last c.args.low.met.id _ w.1.1 c.args.low.met.rank (read-seat _ c.args.low c.requires.low)) c.requires.low

pub returns-clause-steps : goal.returns-clause-steps
returns-clause-steps c = λ e s m. advanced c.args.region.now c.climb-next.new.region c.link.new.region c.args.last c.args.low.met c.args.high c.climb-next.result.met c.climb-next.result.entry.cell
    (record { low_seat = read-seat _ c.args.low c.requires.low; high_seat = c.requires.high; lower = c.requires.lower; climbed = c.climb-next.ensures.climbed; noted = c.climb-next.ensures.noted; is = c.climb-next.ensures.seen.cell; written = c.link.ensures })
    e s m

pub returns-clause-rises : goal.returns-clause-rises
returns-clause-rises c =
    let w = c.requires.seam in
    (advanced-rises c.args.region.now c.climb-next.new.region c.link.new.region c.args.last c.args.low.met c.args.high c.climb-next.result.met c.climb-next.result.entry.cell
    (record { low_seat = read-seat _ c.args.low c.requires.low; high_seat = c.requires.high; lower = c.requires.lower; climbed = c.climb-next.ensures.climbed; noted = c.climb-next.ensures.noted; is = c.climb-next.ensures.seen.cell; written = c.link.ensures })
    w.0 w.1.0 w.1.1).0
