use Rattle.std.proofs.Common.{rules, ◌≡◌, ◌+◌, ◌++◌, ◌∷◌, [], List, length, ap, ◌∙◌, arith}
use Rattle.std.proofs.lemmas.List.{length-append}
use Rattle.job_shift.specs.Hands.{HandState}
use Rattle.job_shift.proofs.Popped.{popped_length}
use Rattle.job_shift.proofs.Doing.{left_fewer}
use Rattle.job_shift.proofs.crew.disband.Goals as goal

pub loop-worker-preserved : goal.loop-worker-preserved
loop-worker-preserved c =
    let e : c.loop-worker.crew.items ≡ c.pop.new.self.items ++ c.in-Some.worker ∷ [] = c.in-Some.ensures.items in
    let hands : c.push.new.self.items ≡ c.loop-worker.hands.items ++ c.in-Some.worker.hand ∷ [] = search rules in
    let all : c.append.new.self.items ≡ c.loop-worker.all.items ++ c.in-Some.worker.done.items = search rules in
    record {
      count = (let a = popped_length c.loop-worker.crew.items c.pop.new.self.items c.in-Some.worker e in
          let b : length c.push.new.self.items ≡ length c.loop-worker.hands.items + 1 = ap (λ (l : List HandState). length l) hands ∙ length-append c.loop-worker.hands.items (c.in-Some.worker.hand ∷ []) in
          let i = c.loop-worker.invariant.count in omega arith);
      left = left_fewer c.args.crew.items c.loop-worker.crew.items c.pop.new.self.items c.in-Some.worker c.loop-worker.hands.items c.push.new.self.items c.loop-worker.all.items c.append.new.self.items c.loop-worker.invariant.left e c.if-failed.false hands all;
    }
