-- The hands that are left, entered, give the list that all give.
use Rattle.std.proofs.Common.{◌≡◌, drop, length}
use Rattle.job_shift.specs.Finishing.{entered}
use Rattle.job_shift.proofs.finishing.answered.Given as goal

abbrev pub invariant-loop-hand : goal.invariant-loop-hand
invariant-loop-hand l = record {
  left : entered (drop l.hand-index l.hands) l.answer.items ≡ entered l.hands l.initial.answer.items;
  length : length l.answer.items ≡ length l.initial.answer.items;
}
