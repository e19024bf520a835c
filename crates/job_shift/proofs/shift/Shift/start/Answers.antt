use Rattle.std.proofs.Common.{◌≡◌, List, ap, sym, subst, ◌∙◌}
use Rattle.std.specs.Prelude.{All}
use Rattle.std.specs.List.{range_with_len}
use Rattle.job_shift.specs.Hands.{HandState, AreAllHands, IsFresh, hand_numbers, fresh_hands}
use Rattle.job_shift.specs.HandedNumbers.{IsUnstarted}
use Rattle.job_shift.proofs.Fresh.{fresh_all, fresh_ready, fresh_numbers, unstarted}
use Rattle.job_shift.proofs.shift.Shift.start.Goals as goal

pub returns-clause-hands : goal.returns-clause-hands
returns-clause-hands c = subst (λ (l : List HandState). AreAllHands l c.in_ok-shift.shift) (sym c.in_ok-hands.ensures) (fresh_all c.in_ok-shift.shift)

pub returns-clause-fresh : goal.returns-clause-fresh
returns-clause-fresh c = subst (λ (l : List HandState). All IsFresh l) (sym c.in_ok-hands.ensures) (fresh_ready c.in_ok-shift.shift)

pub returns-clause-unstarted : goal.returns-clause-unstarted
returns-clause-unstarted c = subst (λ (l : List HandState). IsUnstarted l c.in_ok-shift.shift) (sym c.in_ok-hands.ensures) (unstarted c.in_ok-shift.shift)

pub returns-clause-numbers : goal.returns-clause-numbers
returns-clause-numbers c = ap (λ (l : List HandState). hand_numbers l) c.in_ok-hands.ensures ∙ fresh_numbers c.in_ok-shift.shift ∙ ap (λ n. range_with_len 0 n) c.in_ok-shift.ensures.workers
