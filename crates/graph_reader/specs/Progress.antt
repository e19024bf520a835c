-- What a decoder has read, said by what is still to come.
use Rattle.std.specs.Prelude.{ℕ, ◌+◌, Bool, List, [], length, Result}
use Rattle.hg_base.specs.Graph.{WeightedGraph}
use Rattle.hg_base.specs.declared.fault.InputFault.{InputFault}
use Rattle.input_tokens.specs.declared.lexer.Lexer.{Lexer}
use Rattle.input_tokens.specs.Lexing.{lexed}
use Rattle.graph_reader.specs.Parsing as parsing
use Rattle.graph_reader.specs.Parsing.{Parsing}
use Rattle.input_tokens.specs.Progress.{Onward, ReadsOnFrom}
use Rattle.graph_reader.specs.EdgeList.{edge_list, settles}
use Rattle.input_tokens.specs.Tokens.{ended}

-- a decoder as contracts see it: the number of bytes that were fed, and how far the reading has come
pub record Progress : Type 0 where
  pub taken : ℕ
  pub lexer : Lexer
  pub parsing : Parsing

-- a call of `feed` answered that memory ran out
abbrev pub is_out_of_memory : Progress → Bool
is_out_of_memory d = parsing.is_out_of_memory d.parsing.stage

-- a fault is known, or memory ran out
abbrev pub is_over : Progress → Bool
is_over d = parsing.is_over d.parsing.stage

-- so many bytes more were fed, and nothing else changed
abbrev pub with_more : Progress → ℕ → Progress
with_more d count = record { taken = d.taken + count; lexer = d.lexer; parsing = d.parsing }

-- what reading on through these bytes to the end gives
unfoldable pub reading_on : Progress → List ℕ → Result WeightedGraph InputFault
reading_on d rest = parsing.reading d.parsing (d.taken + length rest) (lexed d.lexer d.taken rest)

-- whether the header is settled after these bytes
unfoldable pub settles_with : Progress → List ℕ → Bool
settles_with d rest = parsing.settling d.parsing.stage (ended (d.taken + length rest) (lexed d.lexer d.taken rest))

-- how much memory the graph takes is known, and the memory is taken
abbrev pub is_sized : Progress → Bool
is_sized d = parsing.settling d.parsing.stage []

-- how the decoder goes on
abbrev pub onward : Progress → Onward WeightedGraph
onward d = record { taken = d.taken; out_of_memory = is_out_of_memory d; reading = reading_on d; settling = settles_with d }

-- The decoder has read these bytes: whatever follows, reading on from it is reading them and what follows.
abbrev pub HasRead : Progress → List ℕ → Type 0
HasRead d bytes = ReadsOnFrom edge_list settles bytes (onward d)
