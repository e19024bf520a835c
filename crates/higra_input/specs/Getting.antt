-- What getting the input of a request comes to.
use Rattle.std.specs.Prelude.{◌≡◌, ℕ, ◌-◌, ◌^◌, ◌<◌, List, Option, Some, None, Result, MatchResult}
use Rattle.hg_base.specs.declared.fault.InputFault.{InputFault}
use Rattle.pgm_reader.specs.Generator.{made}
use Rattle.higra_words.specs.declared.request.Made.{Made}
use Rattle.higra_input.specs.Reading.{Told, GaveBy, GaveInput, StopsReading}
use Rattle.higra_input.specs.declared.fault.ReadFault.{ReadFault}
use Rattle.higra_input.specs.declared.fault.ReadFault.TheVariants as faults
use Rattle.higra_input.specs.declared.input.Input.{Input}
use Rattle.higra_input.specs.declared.input.Input.TheVariants.{Picture}

-- a count stood still, below the end of its type
pub record StoodStill (before after : ℕ) : Type 0 where
  pub same : after ≡ before
  pub below : before < 2 ^ 64 - 1

-- the input of a request: the picture that it has made, and then its source gave nothing; or else what its source gave to its end
abbrev pub GotInput : Option Made → Option (List ℕ) → Option (List ℕ) → Input → Type 0
GotInput (Some m) old new input = (new ≡ old) × (input ≡ Picture (made m.side m.seed))
GotInput None old new input = GaveInput old new input

-- getting an input ended for this fault: where a picture is made, only for want of memory
abbrev pub StopsGetting : Option Made → Told → Told → ReadFault → Type 0
StopsGetting (Some m) old new fault = fault ≡ faults.OutOfMemory
StopsGetting None old new fault = StopsReading old new fault

-- getting the input of a request gave it, or ended for a fault
abbrev pub EndsGetting : Option Made → Told → Told → Result Input ReadFault → Type 0
EndsGetting made old new result =
    MatchResult result
    (λ input. (new.faults ≡ old.faults) × GotInput made old.bytes new.bytes input)
    (StopsGetting made old new)

-- the bytes of a request's source, where it tells them; whatever they are where a picture is made
abbrev pub AreBytesOf : Option Made → Option (List ℕ) → List ℕ → Type 0
AreBytesOf (Some m) left bytes = Unit {0}
AreBytesOf None left bytes = left ≡ Some bytes

-- how much was taken of the source of a request whose input has this fault: nothing where a picture is made
abbrev pub TookBy : Option Made → InputFault → Option (List ℕ) → Option (List ℕ) → Type 0
TookBy (Some m) fault old new = new ≡ old
TookBy None fault old new = GaveBy fault old new
