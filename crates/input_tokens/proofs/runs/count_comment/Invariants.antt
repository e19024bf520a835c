use Rattle.std.proofs.Common.{◌≤◌, ◌-◌, length, take}
use Rattle.input_tokens.specs.declared.lexer.Lexer.TheVariants.{Comment}
use Rattle.input_tokens.specs.Lexing.{GoesOn}
use Rattle.input_tokens.proofs.runs.count_comment.Given as goal

abbrev pub invariant-loop-count : goal.invariant-loop-count
invariant-loop-count l = record {
  within : l.count ≤ length l.piece;
  goes : GoesOn Comment Comment (take l.count l.piece);
}

abbrev pub decreases-loop-count : goal.decreases-loop-count
decreases-loop-count l = length l.piece - l.count
