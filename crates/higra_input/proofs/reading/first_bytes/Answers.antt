use Rattle.std.proofs.Common.{◌≡◌, ◌-◌, ◌∙◌, length, arith, rules}
use Rattle.higra_input.proofs.ReadingLemmas.{first_more, length-front}
use Rattle.higra_input.proofs.reading.first_bytes.Goals as goal

pub loop-count-preserved : goal.loop-count-preserved
loop-count-preserved g c =
    let kept = c.loop-count.invariant in
    let long : length c.read.new.into ≡ length c.loop-count.buffer - c.loop-count.count = search rules in
    let same = length-front c.loop-count.count c.loop-count.buffer c.read.new.into kept.0 long in (
      omega (arith, same, long, c.in_ok-more.ensures.bound, kept.0),
      same ∙ kept.1,
      first_more _ _ _ c.loop-count.count c.in_ok-more.more c.loop-count.buffer c.read.new.into kept.0 c.in_ok-more.ensures.bound kept.2 c.in_ok-more.ensures.bytes.0,
      c.in_ok-more.ensures.cause ∙ kept.3,
    )
