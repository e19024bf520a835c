use Rattle.std.proofs.Common.{sym, subst, ◌≤◌, ◌<◌, arith}
use Rattle.node_region.specs.declared.cell.Cell.{Cell}
use Rattle.border_climb.specs.declared.climbing.Met.{Met}
use Rattle.border_climb.specs.Climbs.{EndsClimb, IsFurther}
use Rattle.border_climb.specs.Notes.{IsClimbable}
use Rattle.border_climb.proofs.Pools.{some-map, links-noted, links-back, noted-trans, noted-climbable, climbable-higher, one-cell}
use Rattle.border_climb.proofs.Ways.{further-same, reached-on, ends-same, waiting-further, seen-read, seen-same}
use Rattle.border_climb.proofs.climbing.climb.Goals as goal

pub ahead-requires-clause-seen : goal.ahead-requires-clause-seen
ahead-requires-clause-seen c =
    let inv = c.loop-next.invariant in
    seen-same _ _ (links-noted c.args.region.now c.loop-next.region c.args.start.met.rank inv.noted) _ inv.seen

pub ahead-requires-clause-climbable : goal.ahead-requires-clause-climbable
ahead-requires-clause-climbable c =
    climbable-higher _ c.args.start.met.rank _ c.loop-next.invariant.reached.from
    (noted-climbable c.args.region.now c.loop-next.region c.args.start.met.rank c.requires.climbable c.loop-next.invariant.noted)

pub returns-in_default-clause-climbed : goal.returns-in_default-clause-climbed
returns-in_default-clause-climbed c =
    let inv = c.loop-next.invariant in
    let same = links-noted c.args.region.now c.loop-next.region c.args.start.met.rank inv.noted in
    record {
      reached = inv.reached;
      low = inv.low;
      last = subst (λ (y : Cell). EndsClimb c.args.region.now y.up c.args.r) (one-cell c.args.region.now c.loop-next.here.met.id _ _ inv.seen.cell inv.reached.seat.is)
          (ends-same _ _ (links-back _ _ same) _ _ c.in_default.ensures.none);
    }

pub returns-in_default-clause-seen : goal.returns-in_default-clause-seen
returns-in_default-clause-seen c =
    let inv = c.loop-next.invariant in
    seen-same _ _ (links-noted c.args.region.now c.loop-next.region c.args.start.met.rank inv.noted) _ inv.seen

pub pass-waiting-requires-clause-further : goal.pass-waiting-requires-clause-further
pass-waiting-requires-clause-further c =
    let inv = c.loop-next.invariant in
    let same = links-noted c.args.region.now c.loop-next.region c.args.start.met.rank inv.noted in
    let on = further-same _ _ (links-back _ _ same) c.loop-next.here.met c.in-Some.next.met c.in-Some.ensures.further in
    some-map _ _ c.loop-next.waiting (λ low w. further-same _ _ same low c.in-Some.next.met w.1)
    (waiting-further _ _ c.args.start.met c.loop-next.here c.args.r c.loop-next.waiting c.in-Some.next.met inv on)

pub loop-next-preserved : goal.loop-next-preserved
loop-next-preserved c =
    let inv = c.loop-next.invariant in
    let same = links-noted c.args.region.now c.loop-next.region c.args.start.met.rank inv.noted in
    let on = further-same _ _ (links-back _ _ same) c.loop-next.here.met c.in-Some.next.met c.in-Some.ensures.further in
    let waits = waiting-further _ _ c.args.start.met c.loop-next.here c.args.r c.loop-next.waiting c.in-Some.next.met inv on in
    let from : c.args.start.met.rank ≤ c.loop-next.here.met.rank = inv.reached.from in
    let up : c.loop-next.here.met.rank < c.in-Some.next.met.rank = on.up in
    let climbable : IsClimbable c.loop-next.region c.in-Some.next.met.rank = climbable-higher _ c.args.start.met.rank _ (omega arith)
    (noted-climbable c.args.region.now c.loop-next.region c.args.start.met.rank c.requires.climbable inv.noted) in
    record {
      noted = noted-trans _ _ _ _ inv.noted (c.pass-waiting.ensures.noted c.args.start.met.rank (some-map _ _ c.loop-next.waiting (λ low w. w.0) waits));
      reached = reached-on _ _ _ _ inv.reached on;
      seen = seen-same _ _ (links-back _ _ same) _ (seen-read _ _ climbable c.in-Some.ensures.read);
      low = c.in-Some.ensures.low;
      waits = some-map _ _ c.pass-waiting.result (λ low same_one.
          (subst (λ (y : Met). c.args.start.met.rank ≤ y.rank) (sym same_one) inv.reached.from, subst (λ (y : Met). IsFurther c.args.region.now y c.in-Some.next.met) (sym same_one) on)) c.pass-waiting.ensures.waiting;
    }
