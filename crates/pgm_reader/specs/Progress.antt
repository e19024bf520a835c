-- What a decoder of pictures has read, said by what is still to come.
use Rattle.std.specs.Prelude.{ℕ, ◌+◌, Bool, List, length, Result}
use Rattle.hg_base.specs.declared.fault.InputFault.{InputFault}
use Rattle.input_tokens.specs.Progress.{Onward, ReadsOnFrom}
use Rattle.pgm_reader.specs.Raster.{Raster}
use Rattle.pgm_reader.specs.Pgm.{picture, settles}
use Rattle.pgm_reader.specs.Parsing as parsing
use Rattle.pgm_reader.specs.Parsing.{Parsing}

-- a decoder as contracts see it: the number of bytes that were fed, and how far the reading has come
pub record Progress : Type 0 where
  pub taken : ℕ
  pub parsing : Parsing

-- a call of `feed` answered that memory ran out
abbrev pub is_out_of_memory : Progress → Bool
is_out_of_memory d = parsing.is_out_of_memory d.parsing.stage

-- a fault is known, or memory ran out
abbrev pub is_over : Progress → Bool
is_over d = parsing.is_over d.parsing.stage

-- so many bytes more were fed, and nothing else changed
abbrev pub with_more : Progress → ℕ → Progress
with_more d count = record { taken = d.taken + count; parsing = d.parsing }

-- what reading on through these bytes to the end gives
abbrev pub reading_on : Progress → List ℕ → Result Raster InputFault
reading_on d rest = parsing.reading d.parsing d.taken (d.taken + length rest) rest

-- whether the header is settled after these bytes
abbrev pub settles_with : Progress → List ℕ → Bool
settles_with d rest = parsing.settling d.parsing d.taken rest

-- how much memory the samples take is known, and the memory is taken
abbrev pub is_sized : Progress → Bool
is_sized d = parsing.is_settled d.parsing d.taken

-- how the decoder goes on
abbrev pub onward : Progress → Onward Raster
onward d = record { taken = d.taken; out_of_memory = is_out_of_memory d; reading = reading_on d; settling = settles_with d }

-- The decoder has read these bytes: whatever follows, reading on from it is reading them and what follows.
abbrev pub HasRead : Progress → List ℕ → Type 0
HasRead d bytes = ReadsOnFrom picture settles bytes (onward d)
