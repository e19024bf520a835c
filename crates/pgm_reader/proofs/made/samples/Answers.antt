use Rattle.std.proofs.Common.{◌≡◌, ◌+◌, ◌-◌, zero, suc, refl, arith, ◌∙◌, append-nil}
use Rattle.pgm_reader.proofs.Generating.{one-made, none-more}
use Rattle.pgm_reader.proofs.made.samples.Goals as goal

pub loop-preserved : goal.loop-preserved
loop-preserved c =
    let left : c.args.count - c.loop.counter ≡ suc (c.args.count - (c.loop.counter + 1)) = omega (arith, c.loop-test.true) in
    rw (c.in_ok-push.ensures.items, c.next_state-x.ensures) (one-made _ _ c.loop.x _ c.loop.samples.items left refl ∙ c.loop.invariant)

pub returns : goal.returns
returns c =
    let none : c.args.count - c.loop.counter ≡ zero = omega (arith, c.loop-test.false) in
    let all = rw (none, none-more c.loop.x, append-nil) at c.loop.invariant in
    all
