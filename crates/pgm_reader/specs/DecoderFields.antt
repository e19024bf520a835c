-- What the fields of a decoder of pictures stand for, and what they keep to.
use Rattle.pgm_reader.specs.declared.decoder.PictureDecoder.TheInside.{Inside}
use Rattle.pgm_reader.specs.Parsing.{StandsAt}
use Rattle.pgm_reader.specs.Progress.{Progress}

abbrev pub progress_of : Inside → Progress
progress_of d = record { taken = d.taken; parsing = d.parser }

abbrev pub Keeps : Inside → Type 0
Keeps d = StandsAt d.parser.stage d.taken
