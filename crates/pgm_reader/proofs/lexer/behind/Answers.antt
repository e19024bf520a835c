use Rattle.pgm_reader.proofs.NextToken.{behind-hash, behind-space}
use Rattle.pgm_reader.proofs.lexer.behind.Goals as goal

pub returns-then-b-eq35-clause-tokens : goal.returns-then-b-eq35-clause-tokens
returns-then-b-eq35-clause-tokens c = λ place rest hash ended. rw c.if-b-eq35.true (behind-hash hash place rest)

pub returns-else-b-eq35-clause-tokens : goal.returns-else-b-eq35-clause-tokens
returns-else-b-eq35-clause-tokens c = λ place rest hash ended. behind-space hash place c.args.b rest c.if-b-eq35.false ended
