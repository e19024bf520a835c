use Rattle.std.proofs.Common.{◌∷◌, []}
use Rattle.graph_reader.proofs.Decoding.{read-quiet, read-token, keeps-taking}
use Rattle.graph_reader.proofs.decoder.read_byte.Goals as goal

pub returns-in-Some-clause-read : goal.returns-in-Some-clause-read
returns-in-Some-clause-read c =
    λ bytes. read-token c.args.parser.now c.take.new.self c.args.lexer c.after-next.result.0 c.args.place c.args.b c.in-Some.found.at c.in-Some.found.token bytes c.take.ensures
    (λ rest. rw c.in-Some.is at (c.after-next.ensures.tokens rest))

pub returns-in-Some-clause-keeps : goal.returns-in-Some-clause-keeps
returns-in-Some-clause-keeps c = keeps-taking _ _ _ _ c.take.ensures

pub returns-in-None-clause-read : goal.returns-in-None-clause-read
returns-in-None-clause-read c =
    λ bytes. read-quiet c.args.parser.now c.args.lexer c.after-next.result.0 c.args.place (c.args.b ∷ []) bytes
    (λ rest. rw c.in-None.is at (c.after-next.ensures.tokens rest))
