use Rattle.std.proofs.Common.{◌≤◌, ◌-◌, length, take}
use Rattle.input_tokens.specs.declared.lexer.Lexer.TheVariants.{Between}
use Rattle.input_tokens.specs.Lexing.{GoesOn}
use Rattle.input_tokens.proofs.runs.count_spaces.Given as goal

abbrev pub invariant-loop-count : goal.invariant-loop-count
invariant-loop-count l = record {
  within : l.count ≤ length l.piece;
  goes : GoesOn Between Between (take l.count l.piece);
}

abbrev pub decreases-loop-count : goal.decreases-loop-count
decreases-loop-count l = length l.piece - l.count
