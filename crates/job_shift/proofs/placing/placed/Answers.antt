use Rattle.std.proofs.Common.{◌≡◌, ◌<◌, ◌++◌, ◌∷◌, [], All, List, length, ap, ◌∙◌, arith}
use Rattle.std.proofs.lemmas.List.{length-set}
use Rattle.job_shift.proofs.Popped.{popped_front, popped_last}
use Rattle.job_shift.proofs.Places.{Texts, one_placed}
use Rattle.job_shift.proofs.placing.placed.Goals as goal

pub loop-one-preserved : goal.loop-one-preserved
loop-one-preserved c =
    let e : c.loop-one.done.items ≡ c.pop.new.self.items ++ c.in-Some.one ∷ [] = c.in-Some.ensures.items in
    let low : c.in-Some.one.job < c.args.count = popped_last (λ d. d.job < c.args.count) c.loop-one.done.items c.pop.new.self.items c.in-Some.one e c.loop-one.invariant.below in
    record {
      count = ap (λ (l : Texts). length l) c.place.ensures ∙ length-set c.loop-one.places.items c.in-Some.one.job c.in-Some.one.text ∙ c.loop-one.invariant.count;
      below = popped_front (λ d. d.job < c.args.count) c.loop-one.done.items c.pop.new.self.items c.in-Some.one e c.loop-one.invariant.below;
      placed = one_placed c.args.done.items c.loop-one.done.items c.pop.new.self.items c.in-Some.one c.loop-one.places.items c.place.new.places.items c.loop-one.invariant.placed e (let k = c.loop-one.invariant.count in omega arith) c.place.ensures;
    }
