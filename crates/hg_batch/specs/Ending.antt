-- How a batch ends: the codes of the statuses, and the line that says why it was refused.
use Rattle.std.specs.Prelude.{ℕ, List, []}
use Rattle.higra_cli.specs.Ending.{fault_line}
use Rattle.higra_cli.specs.declared.status.Status.TheVariants as runs
use Rattle.hg_batch.specs.declared.ending.BatchStatus.{BatchStatus}
use Rattle.hg_batch.specs.declared.ending.BatchStatus.TheVariants as statuses

-- the code with which the program ends, as that of a run
abbrev pub batch_code : BatchStatus → ℕ
batch_code statuses.Success = 0
batch_code statuses.Usage = 2
batch_code (statuses.Input f) = 3
batch_code statuses.ReadFailed = 4
batch_code statuses.WriteFailed = 5
batch_code statuses.OutOfMemory = 6

-- the line that says why the batch was refused, as that of a run; none for one that wasn't
abbrev pub batch_line : BatchStatus → List ℕ
batch_line statuses.Success = []
batch_line statuses.Usage = fault_line runs.Usage
batch_line (statuses.Input f) = fault_line (runs.Input f)
batch_line statuses.ReadFailed = fault_line runs.ReadFailed
batch_line statuses.WriteFailed = fault_line runs.WriteFailed
batch_line statuses.OutOfMemory = fault_line runs.OutOfMemory
