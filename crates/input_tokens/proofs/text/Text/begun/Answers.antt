use Rattle.std.proofs.Common.{sym}
use Rattle.input_tokens.proofs.TextMeanings.{meaning-digit, meaning-g, meaning-other}
use Rattle.input_tokens.proofs.text.Text.begun.Goals as goal

pub returns-then-is_ascii_digit-clause-meaning : goal.returns-then-is_ascii_digit-clause-meaning
returns-then-is_ascii_digit-clause-meaning c =
    λ more. rw c.from.ensures (meaning-digit c.args.b more (sym c.if-is_ascii_digit.ensures.value) c.if-is_ascii_digit.ensures.cases.1)

pub returns-then-b-eq103-clause-meaning : goal.returns-then-b-eq103-clause-meaning
returns-then-b-eq103-clause-meaning c = λ more. rw c.if-b-eq103.true (meaning-g more)

pub returns-else-b-eq103-clause-meaning : goal.returns-else-b-eq103-clause-meaning
returns-else-b-eq103-clause-meaning c = λ more. meaning-other c.args.b more (sym c.if-is_ascii_digit.ensures.value) c.if-b-eq103.false
