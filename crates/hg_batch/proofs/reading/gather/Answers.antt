use Rattle.std.proofs.Common.{◌∙◌, ◌≤◌, refl, arith}
use Rattle.hg_batch.proofs.ReadingLemmas.{gave_at_most, gave_too_much}
use Rattle.hg_batch.proofs.reading.gather.Goals as goal

pub returns-then-count-most-clause-gets : goal.returns-then-count-most-clause-gets
returns-then-count-most-clause-gets g c =
    let short : c.len.result ≤ 134217728 = omega (arith, c.len.ensures, c.loop-count.invariant.short) in
    let much = gave_too_much _ (g.S.Source.left c.loop-count.source) _ c.loop-count.bytes.items c.next_bytes.new.buffer c.len.result c.in-Ok.count c.loop-count.invariant.gave c.in-Ok.ensures.bytes.0 c.in-Ok.ensures.within (omega (arith, c.len.ensures)) short (omega (arith, c.if-count-most.true)) in
    (c.in-Ok.ensures.cause ∙ c.loop-count.invariant.quiet, (much.0, (much.1, refl)))

pub returns-then-count-most-clause-most : goal.returns-then-count-most-clause-most
returns-then-count-most-clause-most g c =
    let short : c.len.result ≤ 134217728 = omega (arith, c.len.ensures, c.loop-count.invariant.short) in
    gave_at_most _ (g.S.Source.left c.loop-count.source) _ c.loop-count.bytes.items c.next_bytes.new.buffer c.len.result c.in-Ok.count c.loop-count.invariant.gave c.in-Ok.ensures.bytes.0 c.in-Ok.ensures.within (omega (arith, c.len.ensures)) short c.in-Ok.ensures.most

pub returns-in_err-extend_from_slice-clause-most : goal.returns-in_err-extend_from_slice-clause-most
returns-in_err-extend_from_slice-clause-most g c =
    let short : c.len.result ≤ 134217728 = omega (arith, c.len.ensures, c.loop-count.invariant.short) in
    gave_at_most _ (g.S.Source.left c.loop-count.source) _ c.loop-count.bytes.items c.next_bytes.new.buffer c.len.result c.in-Ok.count c.loop-count.invariant.gave c.in-Ok.ensures.bytes.0 c.in-Ok.ensures.within (omega (arith, c.len.ensures)) short c.in-Ok.ensures.most
