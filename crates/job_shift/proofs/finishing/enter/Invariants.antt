-- The numbers that are left, entered, give the list that all give.
use Rattle.std.proofs.Common.{◌≡◌, drop, length}
use Rattle.job_shift.specs.Hands.{handed}
use Rattle.job_shift.specs.Finishing.{with_each}
use Rattle.job_shift.proofs.finishing.enter.Given as goal

abbrev pub invariant-loop-number : goal.invariant-loop-number
invariant-loop-number l = record {
  numbers : l.number-items ≡ handed l.hand;
  left : with_each l.hand.view.number (drop l.number-index l.number-items) l.answer ≡ with_each l.hand.view.number (handed l.hand) l.initial.answer;
  length : length l.answer ≡ length l.initial.answer;
}
