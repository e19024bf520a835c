-- How a run ends: the codes of the statuses, and the line that says why a run was refused.
use Rattle.std.specs.Prelude.{ℕ, List, [], ◌∷◌, ◌++◌, codes}
pub use Rattle.hg_base.specs.Fault.{name_of, input_words}
use Rattle.higra_cli.specs.declared.status.Status.{Status}
use Rattle.higra_cli.specs.declared.status.Status.TheVariants as statuses
use Rattle.higra_cli.specs.declared.fault.WriteFault.{WriteFault}
use Rattle.higra_cli.specs.declared.fault.WriteFault.TheVariants as writes
use Rattle.higra_input.specs.declared.fault.ReadFault.{ReadFault}
use Rattle.higra_input.specs.declared.fault.ReadFault.TheVariants as reads
use Rattle.higra_report.specs.declared.fault.ReportFault.TheVariants as refusals
use Rattle.higra_words.specs.declared.fault.WordsFault.{WordsFault}
use Rattle.higra_words.specs.declared.fault.WordsFault.TheVariants as words

-- the code with which the program ends
abbrev pub code_of : Status → ℕ
code_of (statuses.Success receipt) = 0
code_of statuses.Usage = 2
code_of (statuses.Input f) = 3
code_of statuses.ReadFailed = 4
code_of statuses.WriteFailed = 5
code_of statuses.OutOfMemory = 6

-- the status of a run whose words give no request
abbrev pub status_of_words : WordsFault → Status
status_of_words words.Usage = statuses.Usage
status_of_words words.OutOfMemory = statuses.OutOfMemory

-- the status of a run whose source gave no input
abbrev pub status_of_read : ReadFault → Status
status_of_read (reads.Input fault) = statuses.Input fault
status_of_read reads.ReadFailed = statuses.ReadFailed
status_of_read reads.OutOfMemory = statuses.OutOfMemory

-- the status of a run whose report wasn't written
abbrev pub status_of_write : WriteFault → Status
status_of_write (writes.Report (refusals.Input fault)) = statuses.Input fault
status_of_write (writes.Report refusals.OutOfMemory) = statuses.OutOfMemory
status_of_write writes.WriteFailed = statuses.WriteFailed

-- the words of a fault line as a line
abbrev pub said : List ℕ → List ℕ
said words = codes "higra: " ++ (words ++ (10 ∷ []))

-- the line that says why a run was refused; none for a run that wasn't
abbrev pub fault_line : Status → List ℕ
fault_line (statuses.Success receipt) = []
fault_line statuses.Usage = said (codes "usage")
fault_line (statuses.Input f) = said (input_words f)
fault_line statuses.ReadFailed = said (codes "read failed")
fault_line statuses.WriteFailed = said (codes "write failed")
fault_line statuses.OutOfMemory = said (codes "out of memory")
