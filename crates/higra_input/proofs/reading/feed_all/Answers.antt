use Rattle.std.proofs.Common.{◌≡◌, ◌+◌, refl, arith, rules}
use Rattle.higra_input.proofs.ReadingLemmas.{one_more, fed_more, fed_most}
use Rattle.higra_input.specs.Feeding.{GaveOneMore, taken}
use Rattle.higra_input.specs.Reading.{told}
use Rattle.higra_input.proofs.reading.feed_all.Goals as goal

-- what came before the last piece, and that piece
gave_one_more : (g : _) (c : goal.Then-count-most g) → GaveOneMore (told (g.S.Source.left c.args.source.now) (g.S.Source.faults c.args.source.now)) (told (g.S.Source.left c.next_bytes.new.source) (g.S.Source.faults c.next_bytes.new.source)) c.args.decoder.now
gave_one_more g c =
    let fed = c.loop-count.invariant.1 in
    let sum : taken c.loop-count.decoder + c.in-Ok.count ≡ 134217729 = omega (arith, fed.short, c.taken.ensures) in
    one_more _ _ _ (taken c.args.decoder.now) (taken c.loop-count.decoder) c.loop-count.invariant.0 c.next_bytes.new.buffer c.in-Ok.count fed.gave c.in-Ok.ensures.bytes.0 c.in-Ok.ensures.within fed.on.taken sum

pub returns-then-count-most-clause-ends : goal.returns-then-count-most-clause-ends
returns-then-count-most-clause-ends g c = (refl, (search rules, gave_one_more g c))

pub returns-then-count-most-clause-most : goal.returns-then-count-most-clause-most
returns-then-count-most-clause-most g c = let much = gave_one_more g c in (much.0, (much.1.0, omega (arith, much.1.1)))

pub loop-count-preserved : goal.loop-count-preserved
loop-count-preserved g c =
    let fed = c.loop-count.invariant.1 in
    fed_more _ _ _ c.args.decoder.now c.loop-count.decoder c.feed.new.self c.loop-count.invariant.0 c.next_bytes.new.buffer c.in-Ok.count fed c.in-Ok.ensures.bytes.0 c.feed.ensures c.in-Ok.ensures.within
    (omega (arith, fed.short, c.taken.ensures, c.in-Ok.ensures.most, c.if-count-most.false)) c.in-Ok.ensures.cause

pub returns-in_err-feed-clause-most : goal.returns-in_err-feed-clause-most
returns-in_err-feed-clause-most g c =
    let fed = c.loop-count.invariant.1 in
    fed_most (told (g.S.Source.left c.args.source.now) (g.S.Source.faults c.args.source.now)) (told (g.S.Source.left c.loop-count.source) (g.S.Source.faults c.loop-count.source)) (told (g.S.Source.left c.next_bytes.new.source) (g.S.Source.faults c.next_bytes.new.source)) c.args.decoder.now c.loop-count.decoder c.loop-count.invariant.0 c.next_bytes.new.buffer c.in-Ok.count fed c.in-Ok.ensures.bytes.0 c.in-Ok.ensures.within
    (omega (arith, fed.short, c.taken.ensures, c.in-Ok.ensures.most))
