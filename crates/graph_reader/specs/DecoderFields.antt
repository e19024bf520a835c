-- What the fields of a decoder stand for.
use Rattle.graph_reader.specs.declared.decoder.Decoder.TheInside.{Inside}
use Rattle.input_tokens.specs.Lexing.{IsLexing}
use Rattle.graph_reader.specs.Progress.{Progress}

abbrev pub progress_of : Inside → Progress
progress_of d = record { taken = d.taken; lexer = d.lexer; parsing = d.parser }

abbrev pub Keeps : Inside → Type 0
Keeps d = IsLexing d.lexer
