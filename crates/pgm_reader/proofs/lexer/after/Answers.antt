use Rattle.std.proofs.Common.{sym}
use Rattle.pgm_reader.proofs.NextToken.{comment-end, comment-more, between-hash, between-space, between-begin, inside-ends, inside-more}
use Rattle.pgm_reader.proofs.lexer.after.Goals as goal

pub returns-then-is_line_end : goal.returns-then-is_line_end
returns-then-is_line_end c = rw c.in-Comment.is (tt, λ rest. comment-end c.args.hash_ends c.args.place c.args.b rest (sym c.if-is_line_end.ensures))

pub returns-else-is_line_end : goal.returns-else-is_line_end
returns-else-is_line_end c = rw c.in-Comment.is (tt, λ rest. comment-more c.args.hash_ends c.args.place c.args.b rest (sym c.if-is_line_end.ensures))

pub returns-then-b-eq35 : goal.returns-then-b-eq35
returns-then-b-eq35 c = rw (c.in-Between.is, c.if-b-eq35.true) (tt, λ rest. between-hash c.args.hash_ends c.args.place rest)

pub returns-then-is_space : goal.returns-then-is_space
returns-then-is_space c =
    rw c.in-Between.is (tt, λ rest. between-space c.args.hash_ends c.args.place c.args.b rest c.if-b-eq35.false (sym c.if-is_space.ensures))

pub returns-else-is_space : goal.returns-else-is_space
returns-else-is_space c =
    rw c.in-Between.is (
      c.begun.ensures.valid,
      λ rest. between-begin c.begun.result c.args.hash_ends c.args.place c.args.b rest c.if-b-eq35.false (sym c.if-is_space.ensures) c.begun.ensures.meaning,
    )

pub returns-then-ends_token : goal.returns-then-ends_token
returns-then-ends_token c =
    rw c.in-Inside.is (sym c.if-ends_token.ensures, c.token-token.ensures.digits, λ rest. rw c.token-token.ensures.value (inside-ends c.in-Inside.text c.args.hash_ends c.in-Inside.at c.args.place c.args.b rest (sym c.if-ends_token.ensures)))

pub returns-else-ends_token : goal.returns-else-ends_token
returns-else-ends_token c =
    rw c.in-Inside.is (c.with.ensures.valid, λ rest. inside-more c.in-Inside.text c.with.result c.args.hash_ends c.in-Inside.at c.args.place c.args.b rest (sym c.if-ends_token.ensures) c.with.ensures.meaning)
