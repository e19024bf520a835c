use Rattle.std.proofs.Common.{inl, inr}
use Rattle.pgm_reader.proofs.NextToken.{none-between, none-comment, last-inside}
use Rattle.pgm_reader.proofs.lexer.last.Goals as goal

pub returns-in-Inside : goal.returns-in-Inside
returns-in-Inside c = rw c.in-Inside.is (c.token-token.ensures.digits, λ hash place. rw c.token-token.ensures.value (last-inside c.in-Inside.text hash c.in-Inside.at place))

pub returns-in-Between : goal.returns-in-Between
returns-in-Between c = elim c.in-Between.is [
  | inl e ↦ rw e (λ hash place. none-between hash place)
  | inr e ↦ rw e (λ hash place. none-comment hash place)
]
