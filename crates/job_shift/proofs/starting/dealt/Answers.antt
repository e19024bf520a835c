use Rattle.std.proofs.Common.{rules, ◌≡◌, ◌∷◌, ◌++◌, [], arith}
use Rattle.job_shift.proofs.Fresh.{first_left, next_dealt}
use Rattle.job_shift.proofs.starting.dealt.Goals as goal

pub loop-share-preserved : goal.loop-share-preserved
loop-share-preserved c =
    let more : c.push.new.self.items ≡ c.loop-share.hands.items ++ c.split_off-hand.result ∷ [] = search rules in
    record {
      some = omega arith;
      first = first_left c.args.shift.now c.loop-share.share c.loop-share.first c.split_off-hand.new.hand c.loop-share.invariant.first c.split_off-hand.ensures.old;
      hands = next_dealt c.args.shift.now c.loop-share.share c.loop-share.hands.items c.push.new.self.items c.loop-share.first c.split_off-hand.result c.loop-share.invariant.some c.loop-share.invariant.first c.split_off-hand.ensures.new more c.loop-share.invariant.hands;
    }
