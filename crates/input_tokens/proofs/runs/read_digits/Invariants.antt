use Rattle.std.proofs.Common.{◌≤◌, ◌-◌, length, take}
use Rattle.input_tokens.specs.declared.text.Text.TheVariants.{Number}
use Rattle.input_tokens.specs.declared.lexer.Lexer.TheVariants.{Inside}
use Rattle.input_tokens.specs.Lexing.{BeginsToken, GoesOn}
use Rattle.input_tokens.proofs.runs.read_digits.Given as goal

abbrev pub invariant-loop-count : goal.invariant-loop-count
invariant-loop-count l = record {
  within : l.count ≤ length l.piece;
  valid : BeginsToken (Number l.all l.sum);
  goes : GoesOn (Inside l.at (Number l.digits l.value)) (Inside l.at (Number l.all l.sum)) (take l.count l.piece);
}

abbrev pub decreases-loop-count : goal.decreases-loop-count
decreases-loop-count l = length l.piece - l.count
