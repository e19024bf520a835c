-- What a run leaves behind, by how it ended.
use Rattle.std.specs.Prelude.{◌≡◌, ◌⊎◌, ℕ, List, Option, Some, None, Result, Ok, Err}
use Rattle.std.specs.Io.KnownBytes.{Appends}
use Rattle.hg_base.specs.Outside.{Rose, AppendsPrefix}
use Rattle.hg_base.specs.declared.fault.InputFault.{InputFault}
use Rattle.merge_board.specs.Seats.{ReceiptState}
use Rattle.higra_words.specs.Command.{requested}
use Rattle.higra_words.specs.declared.request.Request.{Request}
use Rattle.higra_input.specs.Getting.{AreBytesOf, GotInput, TookBy}
use Rattle.higra_input.specs.Inputs.{input_graph, input_for}
use Rattle.higra_input.specs.Reading.{Told}
use Rattle.higra_input.specs.declared.input.Input.{Input}
use Rattle.higra_report.specs.Reports.{component_side, request_receipt, refusal, report_of}
use Rattle.higra_report.specs.Theorems.{HasComponents, IsHierarchy}
use Rattle.higra_report.specs.declared.fault.ReportFault.TheVariants as refusals
use Rattle.higra_cli.specs.declared.fault.WriteFault.{WriteFault}
use Rattle.higra_cli.specs.declared.fault.WriteFault.TheVariants as writes
use Rattle.higra_cli.specs.declared.status.Status.{Status}
use Rattle.higra_cli.specs.declared.status.Status.TheVariants as statuses

-- the words give a request
abbrev pub HasRequest : List (List ℕ) → Type 0
HasRequest words = (request : Request) × (requested words ≡ Some request)

-- the report was written
abbrev pub IsSuccess : Status → Type 0
IsSuccess status = (receipt : ReceiptState) × (status ≡ statuses.Success receipt)

-- the status for an input that is refused for this reason, or isn't: then with this receipt
abbrev pub status_by : ReceiptState → Option InputFault → Status
status_by receipt None = statuses.Success receipt
status_by receipt (Some fault) = statuses.Input fault

-- the status for what was read
abbrev pub status_for : Request → Result Input InputFault → Status
status_for request (Ok input) = status_by (request_receipt request input) (refusal request input)
status_for request (Err fault) = statuses.Input fault

-- the status of a request whose source has these bytes, where nothing fails
unfoldable pub answer_of : Request → List ℕ → Status
answer_of request bytes = status_for request (input_for request.made bytes)

-- where the source tells its bytes, this is the status for them
abbrev pub IsFor : Request → Option (List ℕ) → Status → Type 0
IsFor request left status = (bytes : List ℕ) → AreBytesOf request.made left bytes → answer_of request bytes ≡ status

-- the status for these bytes; or memory ran out, or the report that they ask for wasn't written
abbrev pub IsAnswerTo : Request → List ℕ → Status → Type 0
IsAnswerTo request bytes status =
    (status ≡ answer_of request bytes) ⊎ ((status ≡ statuses.OutOfMemory) ⊎ ((status ≡ statuses.WriteFailed) × IsSuccess (answer_of request bytes)))

-- The words gave a request, its input is accepted, and this was done with exactly the report that was asked for.
pub record Reports (words : List (List ℕ)) (old new : Option (List ℕ)) (Done : List ℕ → Type 0) : Type 0 where
  pub request : Request
  pub asked : requested words ≡ Some request
  pub input : Input
  pub got : GotInput request.made old new input
  pub accepted : refusal request input ≡ None
  pub done : Done (report_of request input)
  pub hierarchy : IsHierarchy (input_graph input)
  pub components : HasComponents (component_side request.report) input

-- this was done with exactly the report that was asked for, and the receipt is the one of its request and its input
abbrev pub ReportsWith : List (List ℕ) → Option (List ℕ) → Option (List ℕ) → (List ℕ → Type 0) → ReceiptState → Type 0
ReportsWith words old new Done receipt = (reports : Reports words old new Done) × (receipt ≡ request_receipt reports.request reports.input)

-- The input is accepted, and this was done with exactly the report that was asked for.
pub record Writes (request : Request) (input : Input) (Done : List ℕ → Type 0) : Type 0 where
  pub accepted : refusal request input ≡ None
  pub done : Done (report_of request input)
  pub hierarchy : IsHierarchy (input_graph input)
  pub components : HasComponents (component_side request.report) input

-- how the making and the writing of a report left the sink
abbrev pub EndsWriting : Request → Input → Told → Told → Result ReceiptState WriteFault → Type 0
EndsWriting request input out out' (Ok receipt) = Writes request input (Appends out.bytes out'.bytes) × (receipt ≡ request_receipt request input) × (out'.faults ≡ out.faults)
EndsWriting request input out out' (Err (writes.Report (refusals.Input fault))) = (refusal request input ≡ Some fault) × (out'.faults ≡ out.faults)
EndsWriting request input out out' (Err (writes.Report refusals.OutOfMemory)) = out'.faults ≡ out.faults
EndsWriting request input out out' (Err writes.WriteFailed) = Writes request input (AppendsPrefix out.bytes out'.bytes) × Rose out.faults out'.faults

-- the words gave a request, and this is its status
abbrev pub HasStatus : List (List ℕ) → Option (List ℕ) → Status → Type 0
HasStatus words left status = (request : Request) × ((requested words ≡ Some request) × IsFor request left status)

-- the words gave a request, and this much was taken of its source
abbrev pub HasTaken : List (List ℕ) → Option (List ℕ) → Option (List ℕ) → InputFault → Type 0
HasTaken words old new fault = (request : Request) × ((requested words ≡ Some request) × TookBy request.made fault old new)

-- how a run on these words left its source and its sink, by its status
abbrev pub Ends : List (List ℕ) → Told → Told → Told → Told → Status → Type 0
Ends words source source' out out' (statuses.Success receipt) =
    HasStatus words source.bytes (statuses.Success receipt) × ReportsWith words source.bytes source'.bytes (Appends out.bytes out'.bytes) receipt × (source'.faults ≡ source.faults) × (out'.faults ≡ out.faults)
Ends words source source' out out' statuses.Usage =
    (requested words ≡ None) × (source'.faults ≡ source.faults) × (out'.faults ≡ out.faults)
Ends words source source' out out' (statuses.Input fault) =
    HasStatus words source.bytes (statuses.Input fault) × HasTaken words source.bytes source'.bytes fault × (source'.faults ≡ source.faults) × (out'.faults ≡ out.faults)
Ends words source source' out out' statuses.ReadFailed =
    HasRequest words × Rose source.faults source'.faults × (out'.faults ≡ out.faults)
Ends words source source' out out' statuses.WriteFailed =
    ((receipt : ReceiptState) × HasStatus words source.bytes (statuses.Success receipt)) × Reports words source.bytes source'.bytes (AppendsPrefix out.bytes out'.bytes) × (source'.faults ≡ source.faults) × Rose out.faults out'.faults
Ends words source source' out out' statuses.OutOfMemory = out'.faults ≡ out.faults
