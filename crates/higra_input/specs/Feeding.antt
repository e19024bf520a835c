-- What feeding a source to a decoder comes to.
use Rattle.std.specs.Prelude.{◌≡◌, ℕ, ◌+◌, ◌<◌, ◌≤◌, Bool, true, false, List, ◌++◌, length, Result, Ok, Err}
use Rattle.std.specs.Io.KnownBytes.{Consumes, IsAtEnd}
use Rattle.hg_base.specs.Outside.{Rose}
use Rattle.hg_base.specs.declared.fault.InputFault.{InputFault}
use Rattle.hg_base.specs.declared.fault.ReadError.{ReadError}
use Rattle.hg_base.specs.declared.fault.ReadError.TheVariants as errors
use Rattle.graph_reader.specs.Progress as edges
use Rattle.pgm_reader.specs.Pgm.{is_picture}
use Rattle.pgm_reader.specs.Progress as pictures
use Rattle.higra_input.specs.Inputs.{too_long}
use Rattle.higra_input.specs.Reading.{Told, GaveAll}
use Rattle.higra_input.specs.declared.decoding.InputDecoder.{InputDecoder}
use Rattle.higra_input.specs.declared.decoding.InputDecoder.TheVariants as decoders
use Rattle.higra_input.specs.declared.input.Input.{Input}
use Rattle.higra_input.specs.declared.fault.ReadFault.{ReadFault}
use Rattle.higra_input.specs.declared.fault.ReadFault.TheVariants as faults

-- the decoder reads a picture
abbrev pub reads_picture : InputDecoder → Bool
reads_picture (decoders.Edges d) = false
reads_picture (decoders.Picture d) = true

-- how many bytes the decoder was fed
abbrev pub taken : InputDecoder → ℕ
taken (decoders.Edges d) = d.taken
taken (decoders.Picture d) = d.taken

-- the decoder has read these bytes
abbrev pub HasRead : InputDecoder → List ℕ → Type 0
HasRead (decoders.Edges d) bytes = edges.HasRead d bytes
HasRead (decoders.Picture d) bytes = pictures.HasRead d bytes

-- the decoder read on from old to new through these bytes
pub record ReadsOn (old new : InputDecoder) (more : List ℕ) : Type 0 where
  pub form : reads_picture new ≡ reads_picture old
  pub taken : taken new ≡ taken old + length more
  pub read : (bytes : List ℕ) → HasRead old bytes → HasRead new (bytes ++ more)

-- the source gave its first bytes: three at least, or all that it has
pub record HasBegun (old new : Told) (first : List ℕ) : Type 0 where
  pub gave : Consumes old.bytes new.bytes first
  pub all : length first < 3 → IsAtEnd new.bytes
  pub short : length first ≤ 65536
  pub quiet : new.faults ≡ old.faults

-- the source gave these bytes, and the decoder read on through them
pub record HasFed (old new : Told) (before after : InputDecoder) (more : List ℕ) : Type 0 where
  pub gave : Consumes old.bytes new.bytes more
  pub on : ReadsOn before after more
  pub short : taken after ≤ 134217728
  pub quiet : new.faults ≡ old.faults

-- all of the source was fed
abbrev pub HasFedAll : Told → Told → InputDecoder → InputDecoder → Type 0
HasFedAll old new before after = (more : List ℕ) × (HasFed old new before after more × IsAtEnd new.bytes)

-- the source gave bytes that are with those before them one more than an input may have
abbrev pub GaveOneMore : Told → Told → InputDecoder → Type 0
GaveOneMore old new before = (more : List ℕ) × (Consumes old.bytes new.bytes more × (taken before + length more ≡ 134217729))

-- the source gave no more than that
abbrev pub GaveToOneMore : Told → Told → InputDecoder → Type 0
GaveToOneMore old new before = (more : List ℕ) × (Consumes old.bytes new.bytes more × (taken before + length more ≤ 134217729))

-- feeding ended for this fault
abbrev pub StopsFeeding : Told → Told → InputDecoder → ReadFault → Type 0
StopsFeeding old new before (faults.Input fault) = (fault ≡ too_long) × ((new.faults ≡ old.faults) × GaveOneMore old new before)
StopsFeeding old new before faults.ReadFailed = Rose old.faults new.faults
StopsFeeding old new before faults.OutOfMemory = Unit {0}

-- a source was read to its end, and the decoder that its bytes choose has read them
pub record HasReadAll (old new : Told) (d : InputDecoder) : Type 0 where
  pub bytes : List ℕ
  pub all : GaveAll old.bytes new.bytes bytes
  pub read : HasRead d bytes
  pub form : reads_picture d ≡ is_picture bytes
  pub quiet : new.faults ≡ old.faults

-- what was read gave an input, or has a fault, or memory ran out
abbrev pub EndsDecoding : Result Input InputFault → Result Input ReadError → Type 0
EndsDecoding read (Ok input) = read ≡ Ok input
EndsDecoding read (Err (errors.Fault fault)) = read ≡ Err fault
EndsDecoding read (Err errors.OutOfMemory) = Unit {0}
