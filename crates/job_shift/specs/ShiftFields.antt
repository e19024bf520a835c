-- What the fields of a shift hold.
use Rattle.std.specs.Prelude.{◌≡◌, ◌≤◌, length}
use Rattle.job_shift.specs.Hands.{ShiftState}
use Rattle.job_shift.specs.declared.shift.Shift.TheInside as shift

abbrev pub shift_of : shift.Inside → ShiftState
shift_of s = record { table = s.table.shared.table_id; count = s.table.shared.key.count; workers = s.table.shared.key.workers }

-- the table has one word and no slots, the answer has a place for each number, and the numbers are within their limits
pub record IsShiftTable (s : shift.Inside) : Type 0 where
  pub words : s.table.shared.table_id.words ≡ 1
  pub slots : s.table.shared.table_id.slots ≡ 0
  pub count : s.count ≡ s.table.shared.key.count
  pub answer : length s.answer.items ≡ s.table.shared.key.count
  pub some_job : 1 ≤ s.table.shared.key.count
  pub few_jobs : s.table.shared.key.count ≤ 4096
  pub some_worker : 1 ≤ s.table.shared.key.workers
  pub few_workers : s.table.shared.key.workers ≤ 64
