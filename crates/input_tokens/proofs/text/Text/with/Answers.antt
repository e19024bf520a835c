use Rattle.std.proofs.Common.{sym, arith}
use Rattle.input_tokens.proofs.TextMeanings.{meaning-word, meaning-word-other, meaning-number, meaning-number-other, meaning-number-full, meaning-Other}
use Rattle.input_tokens.proofs.text.Text.with.Goals as goal
use Rattle.input_tokens.proofs.text.Text.with.Goals.{else-length-lt6-via-then-length-lt6+else-b-length, else-length-lt6-via-else-length-lt6, else-digits-lt10-via-then-digits-lt10+else-is_ascii_digit, else-digits-lt10-via-else-digits-lt10}

pub returns-then-b-length-clause-meaning : goal.returns-then-b-length-clause-meaning
returns-then-b-length-clause-meaning c =
    λ more. rw c.in-Word.is (meaning-word c.in-Word.length c.args.b more c.if-length-lt6.true (sym c.if-b-length.true))

pub returns-else-length-lt6-clause-meaning : goal.returns-else-length-lt6-clause-meaning
returns-else-length-lt6-clause-meaning c =
    let k = rw c.in-Word.is at c.requires in
    λ more. rw c.in-Word.is (meaning-word-other c.in-Word.length c.args.b more k.0 k.1 (λ short. elim c.else-length-lt6.branch [
      | else-length-lt6-via-then-length-lt6+else-b-length w ↦ w.if-b-length.false
      | else-length-lt6-via-else-length-lt6 w ↦ absurd (omega arith)
    ]))

pub returns-then-is_ascii_digit-clause-meaning : goal.returns-then-is_ascii_digit-clause-meaning
returns-then-is_ascii_digit-clause-meaning c =
    λ more. rw (c.in-Number.is, c.from.ensures) (meaning-number _ _ c.args.b more (sym c.if-is_ascii_digit.ensures.value))

pub returns-else-digits-lt10-clause-meaning : goal.returns-else-digits-lt10-clause-meaning
returns-else-digits-lt10-clause-meaning c =
    λ more. rw c.in-Number.is (elim c.else-digits-lt10.branch [
      | else-digits-lt10-via-then-digits-lt10+else-is_ascii_digit w ↦ meaning-number-other _ _ c.args.b more (sym w.if-is_ascii_digit.ensures.value)
      | else-digits-lt10-via-else-digits-lt10 w ↦ meaning-number-full _ _ c.args.b more w.if-digits-lt10.false
    ])

pub returns-in-Other-clause-meaning : goal.returns-in-Other-clause-meaning
returns-in-Other-clause-meaning c = λ more. rw c.in-Other.is (meaning-Other c.args.b more)
