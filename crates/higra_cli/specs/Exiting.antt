-- What a run that ended with a code left behind.
use Rattle.std.specs.Prelude.{◌≡◌, ◌≢◌, ℕ, List, Option, None}
use Rattle.std.specs.Io.KnownBytes.{Appends}
use Rattle.hg_base.specs.Outside.{AppendsPrefix}
use Rattle.hg_base.specs.declared.fault.InputFault.{InputFault}
use Rattle.merge_board.specs.Seats.{ReceiptState}
use Rattle.higra_words.specs.Command.{requested}
use Rattle.higra_cli.specs.Ending.{code_of, fault_line}
use Rattle.higra_cli.specs.Running.{HasStatus, Reports, ReportsWith}
use Rattle.higra_cli.specs.declared.status.Status.{Status}
use Rattle.higra_cli.specs.declared.status.Status.TheVariants as statuses

-- what the clauses of `run` say of its words and of what the source, the sink of the report and that of the fault line tell
pub record Leaves (words : List (List ℕ)) (source source' out out' err err' : Option (List ℕ)) (status : Status) : Type 0 where
  pub usage : status ≡ statuses.Usage → requested words ≡ None
  pub input : (fault : InputFault) → status ≡ statuses.Input fault → HasStatus words source (statuses.Input fault)
  pub success : (receipt : ReceiptState) → status ≡ statuses.Success receipt → ReportsWith words source source' (Appends out out') receipt
  pub begun : status ≡ statuses.WriteFailed → Reports words source source' (AppendsPrefix out out')
  pub unwritten : ((receipt : ReceiptState) → status ≢ statuses.Success receipt) → status ≢ statuses.WriteFailed → out' ≡ out
  pub line : AppendsPrefix err err' (fault_line status)

-- the code is that of a status with which a run left them so
abbrev pub ExitsWith : List (List ℕ) → Option (List ℕ) → Option (List ℕ) → Option (List ℕ) → Option (List ℕ) → Option (List ℕ) → Option (List ℕ) → ℕ → Type 0
ExitsWith words source source' out out' err err' code = (status : Status) × ((code ≡ code_of status) × Leaves words source source' out out' err err' status)
