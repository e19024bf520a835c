-- What the bytes that are still to come make of what has been read of a picture.
use Rattle.std.specs.Prelude.{◌≡◌, ℕ, nat_lt, if◌then◌else◌, ◌+◌, ◌-◌, ◌*◌, ◌<◌, ◌≤◌, Bool, true, false, List, [], ◌∷◌, ◌++◌, length, drop, Option, Some, Result, Ok, Err}
use Rattle.hg_base.specs.declared.fault.InputFault.{InputFault}
use Rattle.hg_base.specs.declared.fault.ReadError.{ReadError}
use Rattle.hg_base.specs.declared.fault.ReadError.TheVariants as errors
use Rattle.hg_base.specs.declared.fault.FaultKind.TheVariants.{Truncated, SampleAboveMax}
use Rattle.input_tokens.specs.declared.token.Found.{Found}
use Rattle.input_tokens.specs.Rules.{◌>>=◌, fault}
use Rattle.pgm_reader.specs.declared.stage.Field.{Field}
use Rattle.pgm_reader.specs.declared.stage.Field.TheVariants as fields
use Rattle.pgm_reader.specs.declared.stage.Stage.{Stage}
use Rattle.pgm_reader.specs.declared.stage.Stage.TheVariants as stages
use Rattle.pgm_reader.specs.Raster.{Raster}
use Rattle.pgm_reader.specs.Pgm.{CutToken, cut, samples, from_width, from_height, from_greatest, width_settles, height_settles, greatest_settles}
use Rattle.pgm_reader.specs.Lexing.{next_token, cut_token}

-- what has been read of a picture; the numbers and samples mean something from the stage on that reads them
pub record Parsing : Type 0 where
  pub stage : Stage
  pub width : ℕ
  pub height : ℕ
  pub max : ℕ
  pub samples : List ℕ

-- memory ran out
abbrev pub is_out_of_memory : Stage → Bool
is_out_of_memory stages.OutOfMemory = true
is_out_of_memory _ = false

-- no byte changes anything any more: a fault is known, or memory ran out
abbrev pub is_over : Stage → Bool
is_over (stages.Faulty f) = true
is_over stages.OutOfMemory = true
is_over _ = false

-- what the place of the next byte keeps to: one of the form's is before 2, and a second byte of a sample has a first
abbrev pub StandsAt : Stage → ℕ → Type 0
StandsAt stages.Form place = place < 2
StandsAt (stages.LowByte high) place = 1 ≤ place
StandsAt _ place = Unit {0}

-- whether a `#` ends the token of this field
abbrev pub hash_ends : Field → Bool
hash_ends fields.Width = true
hash_ends fields.Height = true
hash_ends fields.Greatest = false

-- the picture with the samples that were read and these
abbrev pub with_samples : Parsing → List ℕ → Raster
with_samples p more = record { width = p.width; height = p.height; max = p.max; samples = p.samples ++ more }

-- what the token of this field and the bytes behind it give, in an input with this end
unfoldable pub from_field : Field → Parsing → ℕ → Option CutToken → Result Raster InputFault
from_field fields.Width p end token = from_width end token
from_field fields.Height p end token = from_height end p.width token
from_field fields.Greatest p end token = from_greatest end p.width p.height token

-- what the samples from this place on give
unfoldable pub from_samples : Parsing → ℕ → ℕ → List ℕ → Result Raster InputFault
from_samples p end place rest = samples end p.max (p.width * p.height - length p.samples) place rest >>= λ more. Ok (with_samples p more)

-- what these bytes give, which begin at this place and go up to the end of the input
unfoldable pub reading_at : Stage → Parsing → ℕ → ℕ → List ℕ → Result Raster InputFault
reading_at stages.Form p place end rest = from_width end (cut true false 2 (drop (2 - place) rest))
reading_at (stages.Header field lexer) p place end rest = from_field field p end (next_token (hash_ends field) lexer place rest)
reading_at stages.Samples p place end rest = from_samples p end place rest
reading_at (stages.LowByte high) p place end rest = from_samples p end (place - 1) (high ∷ rest)
reading_at (stages.Faulty f) p place end rest = Err f
reading_at stages.OutOfMemory p place end rest = fault Truncated end 0

abbrev pub reading : Parsing → ℕ → ℕ → List ℕ → Result Raster InputFault
reading p place end rest = reading_at p.stage p place end rest

-- whether the header is settled once the tokens of these bytes have ended
unfoldable pub field_settles : Field → Parsing → Option CutToken → Bool
field_settles fields.Width p token = width_settles token
field_settles fields.Height p token = height_settles p.width token
field_settles fields.Greatest p token = greatest_settles token

unfoldable pub settling_at : Stage → Parsing → ℕ → List ℕ → Bool
settling_at stages.Form p place rest = width_settles (cut true false 2 (drop (2 - place) rest))
settling_at (stages.Header field lexer) p place rest = field_settles field p (next_token (hash_ends field) lexer place rest)
settling_at _ p place rest = true

abbrev pub settling : Parsing → ℕ → List ℕ → Bool
settling p place rest = settling_at p.stage p place rest

-- the header is settled where the next byte stands at this place
abbrev pub is_settled : Parsing → ℕ → Bool
is_settled p place = settling p place []

-- reading the byte at this place leads from old to new
pub record Reads (old new : Parsing) (place b : ℕ) : Type 0 where
  pub stands : StandsAt new.stage (place + 1)
  pub reading : is_out_of_memory new.stage ≡ false → (end : ℕ) (rest : List ℕ) → reading new (place + 1) end rest ≡ reading old place end (b ∷ rest)
  pub settling : (rest : List ℕ) → settling new (place + 1) rest ≡ settling old place (b ∷ rest)
  pub out : is_out_of_memory old.stage ≡ true → is_out_of_memory new.stage ≡ true
  pub sized : is_settled old place ≡ true → (is_settled new (place + 1) ≡ true) × (is_out_of_memory new.stage ≡ is_out_of_memory old.stage)

-- taking a field's token, which this byte at this place ends, leads from old to new
pub record TakesToken (field : Field) (old new : Parsing) (found : Found) (place b : ℕ) : Type 0 where
  pub stands : StandsAt new.stage (place + 1)
  pub reading : is_out_of_memory new.stage ≡ false → (end : ℕ) (rest : List ℕ) → reading new (place + 1) end rest ≡ from_field field old end (Some (cut_token found place (b ∷ rest)))
  pub settling : (rest : List ℕ) → settling new (place + 1) rest ≡ field_settles field old (Some (cut_token found place (b ∷ rest)))

-- samples are being read
abbrev pub IsAmongSamples : Stage → Type 0
IsAmongSamples stages.Samples = Unit {0}
IsAmongSamples (stages.LowByte high) = Unit {0}
IsAmongSamples _ = ⊥

-- with one sample more
abbrev pub with_sample : Parsing → ℕ → Parsing
with_sample p sample = record { stage = stages.Samples; width = p.width; height = p.height; max = p.max; samples = p.samples ++ sample ∷ [] }

-- taking a sample that begins at this place leads from old to new; what comes next stands somewhere behind it
pub record TakesSample (old new : Parsing) (place sample : ℕ) : Type 0 where
  pub stands : (next : ℕ) → StandsAt new.stage next
  pub reading : (next end : ℕ) (rest : List ℕ) → reading new next end rest
      ≡ (if nat_lt old.max sample then fault SampleAboveMax place sample else from_samples (with_sample old sample) end next rest)
  pub settling : (next : ℕ) (rest : List ℕ) → settling new next rest ≡ true
  pub memory : is_out_of_memory new.stage ≡ false

-- the fault of an input that ends at this place
abbrev pub IsFaultOf : Parsing → ℕ → ReadError → Type 0
IsFaultOf p end (errors.Fault fault) = reading p end end [] ≡ Err fault
IsFaultOf p end errors.OutOfMemory = ⊥
