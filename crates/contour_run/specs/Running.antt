-- What a run that draws contours leaves behind, by how it ended.
use Rattle.std.specs.Prelude.{◌≡◌, ◌⊎◌, ℕ, ◌≤◌, List, Option, Some, None, Result, Ok, Err}
use Rattle.std.specs.Io.KnownBytes.{Appends}
use Rattle.hg_base.specs.Outside.{Rose, AppendsPrefix}
use Rattle.hg_base.specs.declared.fault.InputFault.{InputFault}
use Rattle.merge_board.specs.Seats.{ReceiptState}
use Rattle.higra_input.specs.Getting.{AreBytesOf, GotInput, TookBy}
use Rattle.higra_input.specs.Inputs.{input_graph, input_for}
use Rattle.higra_input.specs.Reading.{Told}
use Rattle.higra_input.specs.declared.input.Input.{Input}
use Rattle.higra_report.specs.Theorems.{IsHierarchy}
use Rattle.higra_report.specs.declared.fault.ReportFault.TheVariants as refusals
use Rattle.higra_cli.specs.Running.{IsSuccess, status_by}
use Rattle.higra_cli.specs.declared.fault.WriteFault.{WriteFault}
use Rattle.higra_cli.specs.declared.fault.WriteFault.TheVariants as writes
use Rattle.higra_cli.specs.declared.status.Status.{Status}
use Rattle.higra_cli.specs.declared.status.Status.TheVariants as statuses
use Rattle.contour_run.specs.Command.{contours_requested}
use Rattle.contour_run.specs.Drawing.{AreContoursOf, contours_receipt, contours_refusal}
use Rattle.contour_run.specs.declared.request.ContourRequest.{ContourRequest}

-- what contours may be asked for
pub record CanDraw (request : ContourRequest) : Type 0 where
  pub some_tile : 1 ≤ request.tile
  pub tile : request.tile ≤ 1048576
  pub some_worker : 1 ≤ request.workers
  pub workers : request.workers ≤ 64

-- the words give a request
abbrev pub HasRequest : List (List ℕ) → Type 0
HasRequest words = (request : ContourRequest) × (contours_requested words ≡ Some request)

-- the status for what was read
abbrev pub status_for : ContourRequest → Result Input InputFault → Status
status_for request (Ok input) = status_by (contours_receipt request input) (contours_refusal request.tile input)
status_for request (Err fault) = statuses.Input fault

-- the status of a request whose source has these bytes, where nothing fails
unfoldable pub answer_of : ContourRequest → List ℕ → Status
answer_of request bytes = status_for request (input_for request.made bytes)

-- where the source tells its bytes, this is the status for them
abbrev pub IsFor : ContourRequest → Option (List ℕ) → Status → Type 0
IsFor request left status = (bytes : List ℕ) → AreBytesOf request.made left bytes → answer_of request bytes ≡ status

-- the status for these bytes; or memory ran out, or the contours that they ask for weren't written
abbrev pub IsAnswerTo : ContourRequest → List ℕ → Status → Type 0
IsAnswerTo request bytes status =
    (status ≡ answer_of request bytes) ⊎ ((status ≡ statuses.OutOfMemory) ⊎ ((status ≡ statuses.WriteFailed) × IsSuccess (answer_of request bytes)))

-- The input is accepted, and this was done with exactly the contours that were asked for. Their tree is the one of the
-- definition, which is a hierarchy of the graph.
pub record Writes (request : ContourRequest) (input : Input) (Done : List ℕ → Type 0) : Type 0 where
  pub accepted : contours_refusal request.tile input ≡ None
  pub bytes : List ℕ
  pub contours : AreContoursOf request.kind input bytes
  pub done : Done bytes
  pub hierarchy : IsHierarchy (input_graph input)

-- The words gave a request, its input is accepted, and this was done with exactly the contours that were asked for.
pub record Draws (words : List (List ℕ)) (old new : Option (List ℕ)) (Done : List ℕ → Type 0) : Type 0 where
  pub request : ContourRequest
  pub asked : contours_requested words ≡ Some request
  pub input : Input
  pub got : GotInput request.made old new input
  pub writes : Writes request input Done

-- the same, and the receipt is the one of the request and the input
abbrev pub DrawsWith : List (List ℕ) → Option (List ℕ) → Option (List ℕ) → (List ℕ → Type 0) → ReceiptState → Type 0
DrawsWith words old new Done receipt = (draws : Draws words old new Done) × (receipt ≡ contours_receipt draws.request draws.input)

-- how the drawing and the writing of contours left the sink
abbrev pub EndsWriting : ContourRequest → Input → Told → Told → Result ReceiptState WriteFault → Type 0
EndsWriting request input out out' (Ok receipt) = Writes request input (Appends out.bytes out'.bytes) × (receipt ≡ contours_receipt request input) × (out'.faults ≡ out.faults)
EndsWriting request input out out' (Err (writes.Report (refusals.Input fault))) = (contours_refusal request.tile input ≡ Some fault) × (out'.faults ≡ out.faults)
EndsWriting request input out out' (Err (writes.Report refusals.OutOfMemory)) = out'.faults ≡ out.faults
EndsWriting request input out out' (Err writes.WriteFailed) = Writes request input (AppendsPrefix out.bytes out'.bytes) × Rose out.faults out'.faults

-- the words gave a request, and this is its status
abbrev pub HasStatus : List (List ℕ) → Option (List ℕ) → Status → Type 0
HasStatus words left status = (request : ContourRequest) × ((contours_requested words ≡ Some request) × IsFor request left status)

-- the words gave a request, and this much was taken of its source
abbrev pub HasTaken : List (List ℕ) → Option (List ℕ) → Option (List ℕ) → InputFault → Type 0
HasTaken words old new fault = (request : ContourRequest) × ((contours_requested words ≡ Some request) × TookBy request.made fault old new)

-- how a run on these words left its source and its sink, by its status
abbrev pub Ends : List (List ℕ) → Told → Told → Told → Told → Status → Type 0
Ends words source source' out out' (statuses.Success receipt) =
    HasStatus words source.bytes (statuses.Success receipt) × DrawsWith words source.bytes source'.bytes (Appends out.bytes out'.bytes) receipt × (source'.faults ≡ source.faults) × (out'.faults ≡ out.faults)
Ends words source source' out out' statuses.Usage =
    (contours_requested words ≡ None) × (source'.faults ≡ source.faults) × (out'.faults ≡ out.faults)
Ends words source source' out out' (statuses.Input fault) =
    HasStatus words source.bytes (statuses.Input fault) × HasTaken words source.bytes source'.bytes fault × (source'.faults ≡ source.faults) × (out'.faults ≡ out.faults)
Ends words source source' out out' statuses.ReadFailed =
    HasRequest words × Rose source.faults source'.faults × (out'.faults ≡ out.faults)
Ends words source source' out out' statuses.WriteFailed =
    ((receipt : ReceiptState) × HasStatus words source.bytes (statuses.Success receipt)) × Draws words source.bytes source'.bytes (AppendsPrefix out.bytes out'.bytes) × (source'.faults ≡ source.faults) × Rose out.faults out'.faults
Ends words source source' out out' statuses.OutOfMemory = out'.faults ≡ out.faults
