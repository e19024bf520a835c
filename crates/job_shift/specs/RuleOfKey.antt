-- The rule of a shift, and the first hand's view, by the key that its table is told once.
use Rattle.job_shift.specs.Shift.{ShiftTable, IsShift}
use Rattle.job_shift.specs.Hands.{first_view}
use Rattle.job_shift.specs.declared.view.HandView.{HandView}
use Rattle.job_shift.specs.declared.view.Key.{Key}

-- the rule of the shift of the key's jobs and workers
abbrev pub rule_of : Key → ShiftTable → Type 0
rule_of key s = IsShift key.count key.workers s

-- the view of the first hand, which stands for all workers
abbrev pub first_of : Key → HandView
first_of key = first_view key.count key.workers
