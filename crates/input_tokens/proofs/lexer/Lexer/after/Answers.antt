use Rattle.std.proofs.Common.{sym}
use Rattle.input_tokens.proofs.ByteByByte.{comment-end, comment-more, between-hash, between-space, between-begin}
use Rattle.input_tokens.proofs.lexer.Lexer.after.Goals as goal

pub returns-then-is_line_end-clause-tokens : goal.returns-then-is_line_end-clause-tokens
returns-then-is_line_end-clause-tokens c = λ rest. rw c.in-Comment.is (comment-end c.args.place c.args.b rest (sym c.if-is_line_end.ensures))

pub returns-else-is_line_end-clause-tokens : goal.returns-else-is_line_end-clause-tokens
returns-else-is_line_end-clause-tokens c = λ rest. rw c.in-Comment.is (comment-more c.args.place c.args.b rest (sym c.if-is_line_end.ensures))

pub returns-then-b-eq35-clause-tokens : goal.returns-then-b-eq35-clause-tokens
returns-then-b-eq35-clause-tokens c = λ rest. rw (c.in-Between.is, c.if-b-eq35.true) (between-hash c.args.place rest)

pub returns-then-is_space-clause-tokens : goal.returns-then-is_space-clause-tokens
returns-then-is_space-clause-tokens c =
    λ rest. rw c.in-Between.is (between-space c.args.place c.args.b rest c.if-b-eq35.false (sym c.if-is_space.ensures))

pub returns-else-is_space-clause-tokens : goal.returns-else-is_space-clause-tokens
returns-else-is_space-clause-tokens c =
    λ rest. rw c.in-Between.is (between-begin c.begun.result c.args.place c.args.b rest c.if-b-eq35.false (sym c.if-is_space.ensures) c.begun.ensures.meaning)
