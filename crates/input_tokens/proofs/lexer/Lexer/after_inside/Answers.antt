use Rattle.std.proofs.Common.{sym}
use Rattle.input_tokens.proofs.ByteByByte.{inside-hash, inside-space, inside-more}
use Rattle.input_tokens.proofs.lexer.Lexer.after_inside.Goals as goal

pub returns-then-b-eq35-clause-tokens : goal.returns-then-b-eq35-clause-tokens
returns-then-b-eq35-clause-tokens c = λ rest. rw (c.if-b-eq35.true, c.token-token.ensures.value) (inside-hash c.args.text c.args.at c.args.place rest)

pub returns-then-is_space-clause-tokens : goal.returns-then-is_space-clause-tokens
returns-then-is_space-clause-tokens c =
    λ rest. rw c.token-token-then-is_space.ensures.value (inside-space c.args.text c.args.at c.args.place c.args.b rest c.if-b-eq35.false (sym c.if-is_space.ensures))

pub returns-else-is_space-clause-tokens : goal.returns-else-is_space-clause-tokens
returns-else-is_space-clause-tokens c =
    λ rest. inside-more c.args.text c.with.result c.args.at c.args.place c.args.b rest c.if-b-eq35.false (sym c.if-is_space.ensures) c.with.ensures.meaning
