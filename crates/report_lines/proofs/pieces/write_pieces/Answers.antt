use Rattle.std.proofs.Common.{List, ℕ, subst}
use Rattle.std.proofs.lemmas.Result.{err_from_is_err_and}
use Rattle.hg_base.specs.Outside.{AppendsPrefix}
use Rattle.report_lines.proofs.PieceForms.{prefix_at}
use Rattle.report_lines.proofs.pieces.write_pieces.Goals as goal

pub returns-in_err-write_all-clause-prefix : goal.returns-in_err-write_all-clause-prefix
returns-in_err-write_all-clause-prefix g c =
    let content = g.K.Sink.content in
    let failed = err_from_is_err_and c.from_residual.result c.from_residual.ensures.1 in
    let some : AppendsPrefix (content c.loop-piece.sink) (content c.write_all.new.sink) c.piece-item.result.items =
    subst (λ (bytes : List ℕ). AppendsPrefix (content c.loop-piece.sink) (content c.write_all.new.sink) bytes) c.deref.ensures.value c.in_err-write_all.ensures.prefix in
    rw (failed.1, ← c.pieces.view_is, ← c.deref-piece-items.ensures.value)
    (prefix_at (λ piece. piece.items) c.deref-piece-items.result.now c.loop-piece.piece-index c.piece-item.result _ _ _ c.loop-piece-test.true c.piece-item.is c.loop-piece.invariant.taken some)
