use Rattle.std.proofs.Common.{◌≡◌, ◌<◌, length, arith}
use Rattle.hg_base.proofs.Lines.{first_number, later_number}
use Rattle.energy_cut.proofs.report.push_numbers.Goals as goal
use Rattle.energy_cut.proofs.report.push_numbers.Goals.{then-place-gt0+in_ok-push, else-place-gt0}

pub loop-place-preserved : goal.loop-place-preserved
loop-place-preserved c =
    let lt : c.loop-place.place < length c.args.numbers.now = omega arith in
    elim c.if-place-gt0.branch [
      | then-place-gt0+in_ok-push w ↦
          rw (c.in_ok-push_number.ensures, w.text-is, w.in_ok-push.ensures.items)
          (later_number c.loop-place.text.items _ _ c.loop-place.place lt w.if-place-gt0.true c.loop-place.invariant)
      | else-place-gt0 w ↦
          let z : c.loop-place.place ≡ 0 = omega arith in
          rw (c.in_ok-push_number.ensures, w.text-is)
          (first_number c.loop-place.text.items _ _ c.loop-place.place lt z c.loop-place.invariant)
    ]
