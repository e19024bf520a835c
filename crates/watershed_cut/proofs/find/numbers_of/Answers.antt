use Rattle.std.proofs.Common.{false, ◌∙◌, ap, get_or}
use Rattle.watershed_cut.proofs.MarkedNumbers.{filter_more, filter_same}
use Rattle.watershed_cut.proofs.find.numbers_of.Goals as goal
use Rattle.watershed_cut.proofs.find.numbers_of.Goals.{then-marks-e+in_ok-push, else-marks-e}

pub loop-e-preserved : goal.loop-e-preserved
loop-e-preserved c =
    let marks = c.args.marks.now in
    elim c.if-marks-e.branch [
      | then-marks-e+in_ok-push w ↦ ap (λ v. v.items) w.numbers-is ∙ filter_more (λ e. get_or marks e false) c.loop-e.e c.loop-e.numbers.items w.push.new.self.items c.loop-e.invariant w.if-marks-e.true w.in_ok-push.ensures.items
      | else-marks-e w ↦ ap (λ v. v.items) w.numbers-is ∙ filter_same (λ e. get_or marks e false) c.loop-e.e c.loop-e.numbers.items c.loop-e.invariant w.if-marks-e.false
    ]
