-- What the fields of a parser of pictures stand for, and what they keep to.
use Rattle.std.specs.Prelude.{◌*◌, ◌<◌, ◌≤◌, length, All, vec_capacity}
use Rattle.input_tokens.specs.Lexing.{IsLexing}
use Rattle.pgm_reader.specs.declared.stage.Field.TheVariants as fields
use Rattle.pgm_reader.specs.declared.stage.Stage.{Stage}
use Rattle.pgm_reader.specs.declared.stage.Stage.TheVariants as stages
use Rattle.pgm_reader.specs.declared.parser.Parser.TheInside.{Inside}
use Rattle.pgm_reader.specs.Parsing.{Parsing}

abbrev pub parsing_of : Inside → Parsing
parsing_of p = record { stage = p.stage; width = p.width; height = p.height; max = p.max; samples = p.samples.items }

-- the header and the samples that have been read are lawful, and there is room for all samples
pub record IsSized (p : Inside) : Type 0 where
  pub some_width : 1 ≤ p.width
  pub some_height : 1 ≤ p.height
  pub pixels : p.width * p.height ≤ 1048576
  pub some_max : 1 ≤ p.max
  pub room : p.width * p.height ≤ vec_capacity p.samples
  pub so_far : length p.samples.items ≤ p.width * p.height
  pub up_to_max : All (λ s. s ≤ p.max) p.samples.items

-- the first byte of a sample has been read
pub record ReadsLowByte (p : Inside) : Type 0 where
  pub sized : IsSized p
  pub two_bytes : 256 ≤ p.max
  pub sample_left : length p.samples.items < p.width * p.height

-- what the fields keep to
abbrev pub KeepsAt : Stage → Inside → Type 0
KeepsAt stages.Form p = Unit {0}
KeepsAt (stages.Header fields.Width lexer) p = IsLexing lexer
KeepsAt (stages.Header fields.Height lexer) p = IsLexing lexer × (1 ≤ p.width) × (p.width ≤ 1048576)
KeepsAt (stages.Header fields.Greatest lexer) p = IsLexing lexer × (1 ≤ p.width) × (1 ≤ p.height) × (p.width * p.height ≤ 1048576)
KeepsAt stages.Samples p = IsSized p
KeepsAt (stages.LowByte high) p = ReadsLowByte p × (high < 256)
KeepsAt (stages.Faulty f) p = Unit {0}
KeepsAt stages.OutOfMemory p = Unit {0}

abbrev pub Keeps : Inside → Type 0
Keeps p = KeepsAt p.stage p
