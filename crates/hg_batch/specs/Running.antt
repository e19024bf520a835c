-- What a batch leaves behind, by how it ended.
use Rattle.std.specs.Prelude.{◌≡◌, ◌⊎◌, ℕ, nat_lt, if◌then◌else◌, List, length, Option, Some, None, Result, Ok, Err, MatchResult, Vec}
use Rattle.std.specs.declared.alloc.Global.{Global}
use Rattle.std.specs.Io.KnownBytes.{Appends}
use Rattle.hg_base.specs.Outside.{Rose, AppendsPrefix}
use Rattle.hg_base.specs.declared.fault.InputFault.{InputFault}
use Rattle.higra_words.specs.Command.{requested}
use Rattle.higra_input.specs.Inputs.{too_long}
use Rattle.higra_input.specs.Reading.{Told, GaveAll, GaveTooMuch}
use Rattle.higra_words.specs.declared.request.Request.{Request}
use Rattle.higra_words.specs.declared.request.Form.{Form}
use Rattle.higra_words.specs.declared.request.Form.TheVariants as forms
use Rattle.higra_words.specs.declared.request.Made.{Made}
use Rattle.hg_batch.specs.Batch.{batch_fault, batch_text}
use Rattle.hg_batch.specs.declared.ending.BatchStatus.{BatchStatus}
use Rattle.hg_batch.specs.declared.ending.BatchStatus.TheVariants as statuses

-- a request that a batch can be asked for: it makes no picture, and its form is a text
abbrev pub batch_of : Option Made → Form → Request → Option Request
batch_of None forms.Text q = Some q
batch_of None forms.Pgm q = None
batch_of (Some m) form q = None

abbrev pub only_batch : Option Request → Option Request
only_batch None = None
only_batch (Some q) = batch_of q.made q.form q

-- the request that the words give, if a batch can be asked for it
abbrev pub batch_request : List (List ℕ) → Option Request
batch_request words = only_batch (requested words)

-- The words gave a request, the source was read to its end, the batch isn't refused, and this was done with its text.
pub record Batches (words : List (List ℕ)) (old new : Option (List ℕ)) (Done : List ℕ → Type 0) : Type 0 where
  pub request : Request
  pub asked : batch_request words ≡ Some request
  pub bytes : List ℕ
  pub gave : GaveAll old new bytes
  pub accepted : batch_fault bytes ≡ None
  pub done : Done (batch_text request bytes)

-- The input has this fault: the source gave one byte more than an input may have, or it was read to its end, and its
-- bytes make a batch that is refused.
abbrev pub HasFault : Option (List ℕ) → Option (List ℕ) → InputFault → Type 0
HasFault old new fault = (bytes : List ℕ) × ((GaveTooMuch old new bytes × (fault ≡ too_long)) ⊎ (GaveAll old new bytes × (batch_fault bytes ≡ Some fault)))

-- the words give a request
abbrev pub HasRequest : List (List ℕ) → Type 0
HasRequest words = (q : Request) × (batch_request words ≡ Some q)

-- how a batch on these words left its source and its sink, by its status
abbrev pub Ends : List (List ℕ) → Told → Told → Told → Told → BatchStatus → Type 0
Ends words source source' out out' statuses.Success =
    Batches words source.bytes source'.bytes (Appends out.bytes out'.bytes) × (source'.faults ≡ source.faults) × (out'.faults ≡ out.faults)
Ends words source source' out out' statuses.Usage =
    (batch_request words ≡ None) × (source'.faults ≡ source.faults) × (out'.faults ≡ out.faults)
Ends words source source' out out' (statuses.Input fault) =
    HasRequest words × HasFault source.bytes source'.bytes fault × (source'.faults ≡ source.faults) × (out'.faults ≡ out.faults)
Ends words source source' out out' statuses.ReadFailed =
    HasRequest words × Rose source.faults source'.faults × (out'.faults ≡ out.faults)
Ends words source source' out out' statuses.WriteFailed =
    Batches words source.bytes source'.bytes (AppendsPrefix out.bytes out'.bytes) × (source'.faults ≡ source.faults) × Rose out.faults out'.faults
Ends words source source' out out' statuses.OutOfMemory = out'.faults ≡ out.faults

-- the same of what all but the fault line answered: an error is the status
abbrev pub EndsWork : List (List ℕ) → Told → Told → Told → Told → Result (Unit {0}) BatchStatus → Type 0
EndsWork words source source' out out' result =
    MatchResult result (λ _. Ends words source source' out out' statuses.Success) (Ends words source source' out out')

-- the text of a batch of these bytes, or why it is refused, or that memory ran out
abbrev pub MakesText : Request → List ℕ → Result (Vec ℕ Global) BatchStatus → Type 0
MakesText q bytes (Ok text) = (batch_fault bytes ≡ None) × (text.items ≡ batch_text q bytes)
MakesText q bytes (Err (statuses.Input fault)) = batch_fault bytes ≡ Some fault
MakesText q bytes (Err statuses.OutOfMemory) = Unit {0}
MakesText q bytes (Err statuses.Success) = ⊥
MakesText q bytes (Err statuses.Usage) = ⊥
MakesText q bytes (Err statuses.ReadFailed) = ⊥
MakesText q bytes (Err statuses.WriteFailed) = ⊥

-- the status of a batch that is refused for this reason, or isn't
abbrev pub status_by : Option InputFault → BatchStatus
status_by None = statuses.Success
status_by (Some fault) = statuses.Input fault

-- the status of a batch whose source has these bytes, where nothing fails
unfoldable pub answer_of : List ℕ → BatchStatus
answer_of bytes = if nat_lt 134217728 (length bytes) then statuses.Input too_long else status_by (batch_fault bytes)

-- the status for these bytes; or memory ran out, or the texts that they ask for weren't written
abbrev pub IsAnswerTo : List ℕ → BatchStatus → Type 0
IsAnswerTo bytes status =
    (status ≡ answer_of bytes) ⊎ ((status ≡ statuses.OutOfMemory) ⊎ ((status ≡ statuses.WriteFailed) × (answer_of bytes ≡ statuses.Success)))
