-- What is read of a source.
use Rattle.std.specs.Prelude.{◌≡◌, ◌≢◌, ◌⊎◌, ℕ, ◌≤◌, List, length, Option, Some, Result, Ok, Err, MatchResult}
use Rattle.std.specs.Io.KnownBytes.{Consumes, IsAtEnd}
use Rattle.hg_base.specs.Outside.{Rose}
use Rattle.hg_base.specs.declared.fault.FaultKind.TheVariants.{TooLong}
use Rattle.hg_base.specs.declared.fault.InputFault.{InputFault}
use Rattle.hg_base.specs.declared.fault.ReadError.{ReadError}
use Rattle.hg_base.specs.declared.fault.ReadError.TheVariants as errors
use Rattle.higra_input.specs.Inputs.{input_of, read_of, too_long}
use Rattle.higra_input.specs.declared.fault.ReadFault.{ReadFault}
use Rattle.higra_input.specs.declared.fault.ReadFault.TheVariants as faults
use Rattle.higra_input.specs.declared.input.Input.{Input}

-- what an end of the outside tells: its bytes, where it tells them, and its count of faults
pub record Told : Type 0 where
  pub bytes : Option (List ℕ)
  pub faults : ℕ

abbrev pub told : Option (List ℕ) → ℕ → Told
told bytes faults = record { bytes = bytes; faults = faults }

-- where the source tells its bytes, they give this input or this fault
abbrev pub AreRead : Option (List ℕ) → Result Input InputFault → Type 0
AreRead left read = (bytes : List ℕ) → left ≡ Some bytes → read_of bytes ≡ read

-- a source gave so many bytes at most
abbrev pub GaveAtMost : ℕ → Option (List ℕ) → Option (List ℕ) → Type 0
GaveAtMost most old new = (bytes : List ℕ) × (Consumes old new bytes × (length bytes ≤ most))

-- a source was read to its end
pub record GaveAll (old new : Option (List ℕ)) (bytes : List ℕ) : Type 0 where
  pub gave : Consumes old new bytes
  pub ended : IsAtEnd new
  pub short : length bytes ≤ 134217728

-- a source was read to its end, and its bytes give this input
abbrev pub GaveInput : Option (List ℕ) → Option (List ℕ) → Input → Type 0
GaveInput old new input = (bytes : List ℕ) × (GaveAll old new bytes × (input_of bytes ≡ Ok input))

-- a source gave one byte more than an input may have
pub record GaveTooMuch (old new : Option (List ℕ)) (bytes : List ℕ) : Type 0 where
  pub gave : Consumes old new bytes
  pub long : length bytes ≡ 134217729

-- how much a source gave whose input has this fault: one byte more than an input may have where it is too long, and all
-- that it had where it has another fault
abbrev pub GaveBy : InputFault → Option (List ℕ) → Option (List ℕ) → Type 0
GaveBy fault old new =
    ((fault ≡ too_long) × ((bytes : List ℕ) × GaveTooMuch old new bytes)) ⊎ ((fault.kind ≢ TooLong) × ((bytes : List ℕ) × GaveAll old new bytes))

-- a fault of what was decoded, as why a source gave no input
abbrev pub read_fault : ReadError → ReadFault
read_fault (errors.Fault fault) = faults.Input fault
read_fault errors.OutOfMemory = faults.OutOfMemory

-- reading a source ended for this fault
abbrev pub StopsReading : Told → Told → ReadFault → Type 0
StopsReading old new (faults.Input fault) = (new.faults ≡ old.faults) × AreRead old.bytes (Err fault) × GaveBy fault old.bytes new.bytes
StopsReading old new faults.ReadFailed = Rose old.faults new.faults
StopsReading old new faults.OutOfMemory = Unit {0}

-- reading a source gave an input, or ended for a fault
abbrev pub EndsReading : Told → Told → Result Input ReadFault → Type 0
EndsReading old new result =
    MatchResult result
    (λ input. (new.faults ≡ old.faults) × GaveInput old.bytes new.bytes input)
    (StopsReading old new)
