use Rattle.std.proofs.Common.{rules, ◌≡◌, ◌++◌, ◌<◌, length, arith}
use Rattle.job_shift.proofs.Places.{one_more}
use Rattle.job_shift.proofs.placing.end_to_end.Goals as goal

pub loop-text-preserved : goal.loop-text-preserved
loop-text-preserved c =
    let more : c.extend_from_slice.new.self.items ≡ c.loop-text.bytes.items ++ c.text-item.result.items = search rules in
    one_more c.args.texts.now c.loop-text.text-index c.text-item.result c.loop-text.bytes.items c.extend_from_slice.new.self.items (omega arith) c.text-item.is c.loop-text.invariant more
