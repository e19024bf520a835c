use Rattle.std.proofs.Common.{rules, ◌≡◌, ℕ, ◌+◌, ◌∙◌, ◌∷◌, ◌++◌, [], List, ap, arith, true}
use Rattle.job_shift.specs.Times.{times, jobs}
use Rattle.job_shift.specs.Hands.{HasMissed, handed}
use Rattle.job_shift.specs.Finishing.{IsHandAt}
use Rattle.job_shift.specs.declared.view.HandView.{HandView}
use Rattle.job_shift.proofs.Popped.{popped_front, popped_last, popped_length}
use Rattle.job_shift.proofs.Answering.{popped_among, times-joined}
use Rattle.job_shift.proofs.finishing.one_for_all.Goals as goal

pub loop-other-init : goal.loop-other-init
loop-other-init c =
    let e : c.args.hands.items ≡ c.pop.new.self.items ++ c.in-Some.hand ∷ [] = c.in-Some.ensures.items in
    let at = popped_last (λ hand. IsHandAt hand c.args.table.now.shared.table_id) c.args.hands.items c.pop.new.self.items c.in-Some.hand e c.requires.each in
    let missed = popped_last HasMissed c.args.hands.items c.pop.new.self.items c.in-Some.hand e c.requires.missed in
    record {
      table = c.token_of-token.ensures.table ∙ at;
      missed = ap (λ (v : HandView). v.missed) c.token_of-token.ensures.view ∙ missed;
      some = c.token_of-token.ensures.share;
      share = (let l = popped_length c.args.hands.items c.pop.new.self.items c.in-Some.hand e in let s = c.token_of-token.ensures.share in omega arith);
      each = popped_front (λ hand. IsHandAt hand c.args.table.now.shared.table_id) c.args.hands.items c.pop.new.self.items c.in-Some.hand e c.requires.each;
      all_missed = popped_front HasMissed c.args.hands.items c.pop.new.self.items c.in-Some.hand e c.requires.missed;
      got = λ j. (let a = popped_among c.args.hands.items c.pop.new.self.items c.in-Some.hand j e in
          let v : times j (jobs c.token_of-token.result.me.0) ≡ times j (handed c.in-Some.hand) = ap (λ (u : HandView). times j (jobs u)) c.token_of-token.ensures.view in omega arith);
    }

pub loop-other-preserved : goal.loop-other-preserved
loop-other-preserved c =
    let e : c.loop-other.hands.items ≡ c.pop-in-loop-other.new.self.items ++ c.in-Some-pop.other ∷ [] = c.in-Some-pop.ensures.items in
    let view = c.take_in.ensures.view in
    record {
      table = c.take_in.ensures.table ∙ c.loop-other.invariant.table;
      missed = ap (λ (v : HandView). v.missed) view ∙ c.loop-other.invariant.missed;
      some = (let s = ap (λ (v : HandView). v.share) view in let o = c.loop-other.invariant.some in omega arith);
      share = (let l = popped_length c.loop-other.hands.items c.pop-in-loop-other.new.self.items c.in-Some-pop.other e in let s = ap (λ (v : HandView). v.share) view in let o = c.token_of.ensures.share in let z = c.loop-other.invariant.share in omega arith);
      each = popped_front (λ hand. IsHandAt hand c.args.table.now.shared.table_id) c.loop-other.hands.items c.pop-in-loop-other.new.self.items c.in-Some-pop.other e c.loop-other.invariant.each;
      all_missed = popped_front HasMissed c.loop-other.hands.items c.pop-in-loop-other.new.self.items c.in-Some-pop.other e c.loop-other.invariant.all_missed;
      got = λ j. (let a = popped_among c.loop-other.hands.items c.pop-in-loop-other.new.self.items c.in-Some-pop.other j e in
          let v : times j (jobs c.token_of.result.me.0) ≡ times j (handed c.in-Some-pop.other) = ap (λ (u : HandView). times j (jobs u)) c.token_of.ensures.view in
          let w : times j (jobs c.take_in.new.token.me.0) ≡ times j (jobs c.loop-other.token.me.0) + times j (jobs c.token_of.result.me.0) = ap (λ (u : HandView). times j (jobs u)) view ∙ times-joined j c.loop-other.token.me.0 c.token_of.result.me.0 in
          let z = c.loop-other.invariant.got j in omega arith);
    }
