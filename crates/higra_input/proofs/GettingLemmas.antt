-- What the input that a request got says of the bytes of its source.
use Rattle.std.proofs.Common.{◌≡◌, ◌≢◌, inl, inr, ℕ, List, Option, Some, None, Ok, sym, ap, arith}
use Rattle.hg_base.specs.Outside.{Rose}
use Rattle.hg_base.specs.declared.fault.FaultKind.TheVariants.{TooLong}
use Rattle.hg_base.specs.declared.fault.InputFault.{InputFault}
use Rattle.higra_words.specs.declared.request.Made.{Made}
use Rattle.higra_input.proofs.ReadingLemmas.{AreRead-all, gave_nothing, gave_once}
use Rattle.higra_input.specs.Getting.{AreBytesOf, GotInput, StoodStill, StopsGetting, TookBy}
use Rattle.higra_input.specs.Inputs.{input_for, too_long}
use Rattle.higra_input.specs.Reading.{GaveTooMuch, Told}
use Rattle.higra_input.specs.declared.fault.ReadFault.TheVariants as faults
use Rattle.higra_input.specs.declared.input.Input.{Input}

-- the input that a request got is the input of the request
pub input_for-got : (m : Option Made) (old new : Option (List ℕ)) (input : Input) → GotInput m old new input → (bytes : List ℕ) → AreBytesOf m old bytes → input_for m bytes ≡ Ok input
input_for-got (Some m) old new input got bytes are = ap Ok (sym got.1)
input_for-got None old new input got bytes are = AreRead-all old new got.0 (Ok input) got.1.0 got.1.1 bytes are

-- so much was taken for a fault of what was read
pub TookBy-stopped : (m : Option Made) (old new : Told) (fault : InputFault) → StopsGetting m old new (faults.Input fault) → TookBy m fault old.bytes new.bytes
TookBy-stopped (Some m) old new fault stopped = cc
TookBy-stopped None old new fault stopped = stopped.2

-- and for one of an input that was got
pub TookBy-got : (m : Option Made) (old new : Option (List ℕ)) (input : Input) (fault : InputFault) → GotInput m old new input → fault.kind ≢ TooLong → TookBy m fault old new
TookBy-got (Some m) old new input fault got other = got.0
TookBy-got None old new input fault got other = inr (other, (got.0, got.1.0))

-- a source that gave one byte more than an input may have gave no input
pub got_short : (m : Option Made) (old new : Option (List ℕ)) (input : Input) (had bytes : List ℕ) → GotInput m old new input → old ≡ Some had → GaveTooMuch old new bytes → ⊥
got_short (Some m) old new input had bytes got is much = omega (arith, gave_nothing old new had bytes is got.0 much.gave, much.long)
got_short None old new input had bytes got is much = omega (arith, gave_once old new had bytes got.0 is much.gave got.1.0.gave, much.long, got.1.0.short)

-- the fault for which it gave so much is that
pub took_long : (m : Option Made) (old new : Option (List ℕ)) (fault : InputFault) (had bytes : List ℕ) → TookBy m fault old new → old ≡ Some had → GaveTooMuch old new bytes → fault ≡ too_long
took_long (Some m) old new fault had bytes took is much = absurd (omega (arith, gave_nothing old new had bytes is took much.gave, much.long))
took_long None old new fault had bytes (inl long) is much = long.0
took_long None old new fault had bytes (inr all) is much = absurd (omega (arith, gave_once old new had bytes all.1.0 is much.gave all.1.1.gave, much.long, all.1.1.short))

-- a count that stood still didn't rise
pub risen : (before after : ℕ) → StoodStill before after → Rose before after → ⊥
risen before after still (inl rose) = omega (arith, still.same)
risen before after still (inr ended) = omega (arith, still.below, ended.0)
