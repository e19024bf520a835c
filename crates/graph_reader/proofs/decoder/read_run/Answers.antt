use Rattle.std.proofs.Common.{arith}
use Rattle.std.proofs.lemmas.List.{take_more, length-take-le}
use Rattle.graph_reader.proofs.Decoding.{read-quiet, read-both}
use Rattle.graph_reader.proofs.decoder.read_run.Goals as goal

pub returns-then-run-piece-clause-read : goal.returns-then-run-piece-clause-read
returns-then-run-piece-clause-read c = λ bytes read.
    let r = read-quiet _ _ _ _ _ bytes c.after_run-now.ensures.tokens read in
    rw (length-take-le c.after_run-now.result.1 c.args.piece.now c.after_run-now.ensures.count) at r

pub returns-clause-read : goal.returns-clause-read
returns-clause-read c = λ bytes read.
    let r = read-quiet _ _ _ _ _ bytes c.after_run-now.ensures.tokens read in
    let s = rw (length-take-le c.after_run-now.result.1 c.args.piece.now c.after_run-now.ensures.count) at r in
    read-both _ _ _ _ _ bytes _ _ _
    (take_more c.args.piece.now c.after_run-now.result.1 0 (omega (arith, c.after_run-now.ensures.count, c.if-run-piece.false)))
    (c.read_byte-next.ensures.read _ s)
