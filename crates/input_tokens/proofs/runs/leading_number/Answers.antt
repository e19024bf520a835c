use Rattle.std.proofs.Common.{rules, ◌≡◌, ◌+◌, ◌∷◌, length, take, sym}
use Rattle.std.proofs.lemmas.List.{take_more}
use Rattle.input_tokens.proofs.QuietRuns.{run-ends}
use Rattle.input_tokens.proofs.runs.leading_number.Goals as goal

pub returns-then-is_space-clause-tokens : goal.returns-then-is_space-clause-tokens
returns-then-is_space-clause-tokens c =
    let piece = c.args.piece.now in
    let digits = c.read_number-now.result.1 in
    let goes = rw c.in-Inside.is at c.read_number-now.ensures.tokens in
    let same : c.args.piece.now ≡ c.in_ok-first.first.now ∷ c.in_ok-first.others.now = search rules in
    let ends = run-ends c.args.place c.in-Inside.at _ c.in-Inside.text (take digits piece) (sym c.if-is_space.ensures) (rw (← same) at goes) in
    (c.args.place + length (take digits piece), rw (take_more piece digits 0 c.if-digits-piece.true, c.token-token.ensures.value) ends)
