use Rattle.input_tokens.proofs.TextMeanings.{token-graph, token-graph2, token-number, token-word, token-other}
use Rattle.input_tokens.proofs.text.Text.token.Goals as goal

pub returns-then-length-eq5-clause-value : goal.returns-then-length-eq5-clause-value
returns-then-length-eq5-clause-value c = rw (c.in-Word.is, c.if-length-eq5.true) token-graph

pub returns-then-length-eq6-clause-value : goal.returns-then-length-eq6-clause-value
returns-then-length-eq6-clause-value c = rw (c.in-Word.is, c.if-length-eq6.true) token-graph2

pub returns-else-length-eq6-clause-value : goal.returns-else-length-eq6-clause-value
returns-else-length-eq6-clause-value c =
    let k = rw c.in-Word.is at c.requires in
    rw c.in-Word.is (token-word c.in-Word.length k.0 k.1 c.if-length-eq5.false c.if-length-eq6.false)

pub returns-in-Number-clause-value : goal.returns-in-Number-clause-value
returns-in-Number-clause-value c = let n = rw c.in-Number.is at c.requires in rw c.in-Number.is (token-number _ _ n.0)

pub returns-in-Other-clause-value : goal.returns-in-Other-clause-value
returns-in-Other-clause-value c = rw c.in-Other.is token-other
