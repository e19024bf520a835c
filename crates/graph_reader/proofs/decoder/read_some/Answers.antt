use Rattle.std.proofs.lemmas.List.{length-take-le}
use Rattle.graph_reader.proofs.Decoding.{read-three, keeps-three}
use Rattle.graph_reader.proofs.decoder.read_some.Goals as goal

pub returns-in-Some-clause-read : goal.returns-in-Some-clause-read
returns-in-Some-clause-read c = λ bytes read.
    let r = read-three _ _ _ _ bytes _ _ _ c.take_three.ensures c.in-Some.ensures.tokens (rw c.in-Some.ensures.between at read) in
    rw (length-take-le c.in-Some.edge.count c.args.piece.now c.in-Some.ensures.count.1) at r

pub returns-in-Some-clause-keeps : goal.returns-in-Some-clause-keeps
returns-in-Some-clause-keeps c = keeps-three _ _ _ _ _ c.take_three.ensures
