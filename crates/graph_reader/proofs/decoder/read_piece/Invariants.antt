use Rattle.std.proofs.Common.{◌+◌, ◌-◌, ◌≤◌, List, ℕ, ◌++◌, length, take}
use Rattle.input_tokens.specs.Lexing.{IsLexing}
use Rattle.graph_reader.specs.Parsing.{KeepsMemory}
use Rattle.graph_reader.specs.Progress.{HasRead}
use Rattle.graph_reader.proofs.decoder.read_piece.Given as goal

abbrev pub invariant-loop-read : goal.invariant-loop-read
invariant-loop-read l = record {
  lexing : IsLexing l.now;
  within : l.read ≤ length l.piece;
  so_far : (bytes : List ℕ) → HasRead (record { taken = l.place; lexer = l.fn.lexer; parsing = l.initial.parser }) bytes
      → HasRead (record { taken = l.place + l.read; lexer = l.now; parsing = l.parser }) (bytes ++ take l.read l.piece);
  keeps : KeepsMemory l.initial.parser l.parser;
}

abbrev pub decreases-loop-read : goal.decreases-loop-read
decreases-loop-read l = length l.piece - l.read
