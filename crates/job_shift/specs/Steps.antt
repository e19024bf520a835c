-- What a step tells its hand: the view before, the number that the step found, and the view after.
use Rattle.std.specs.Prelude.{◌≡◌, ℕ, ◌<◌, ◌≤◌}
use Rattle.atomic_table.specs.Table.{Me}
use Rattle.job_shift.specs.Shift.{ShiftTable, IsShift, Shows, steps}
use Rattle.job_shift.specs.Hands.{with_job, missing}
use Rattle.job_shift.specs.declared.view.HandView.{HandView}

-- The moment of a step of a hand with this view: the rule of the shift held, so many steps had been made, and the view
-- was among the views.
pub record Moment (v : HandView) (n : ℕ) : Type 0 where
  pub state : ShiftTable
  pub rule : IsShift v.count v.workers state
  pub word : steps state ≡ n
  pub hand : ℕ
  pub shows : Shows state hand v

-- the view that a hand has; it holds no slots
abbrev pub Hold : Type 0
Hold = Me (Unit {0}) HandView

-- A step that found fewer steps made than there are jobs gets the next number; another misses.
pub record Steps (me : Hold) (n : ℕ) (after : Hold) : Type 0 where
  pub moment : Moment me.0 n
  pub hit : n < me.0.count → after.0 ≡ with_job me.0 n
  pub missed : me.0.count ≤ n → after.0 ≡ missing me.0 n
  pub slots : after.1 ≡ me.1
