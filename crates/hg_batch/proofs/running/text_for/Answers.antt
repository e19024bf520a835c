use Rattle.std.proofs.Common.{◌≡◌, ℕ, List, ap, ◌∙◌}
use Rattle.hg_batch.proofs.PieceLemmas.{Readings}
use Rattle.hg_batch.proofs.RunningLemmas.{accepted, batch_text-by_one, few_texts, refused_jobs, refused_vertices, some_texts}
use Rattle.hg_batch.specs.Cutting.{values}
use Rattle.hg_batch.specs.Pieces.{all_vertices, readings}
use Rattle.hg_batch.specs.declared.cutting.Piece.{Piece}
use Rattle.hg_batch.proofs.running.text_for.Goals as goal

pub returns-then-count-gt-MOST_JOBS : goal.returns-then-count-gt-MOST_JOBS
returns-then-count-gt-MOST_JOBS g c = refused_jobs c.args.request.now c.args.bytes.now c.piece_count-count.result c.refused.result c.piece_count-count.ensures c.if-count-gt-MOST_JOBS.true c.refused.ensures

-- the vertices of the pieces that were read
counted : (vertices : ℕ) (bytes : List ℕ) (ps items : List Piece) → vertices ≡ all_vertices (values ps) → ps ≡ items → values items ≡ readings bytes → vertices ≡ all_vertices (readings bytes)
counted vertices bytes ps items count are read = count ∙ ap (λ (xs : List Piece). all_vertices (values xs)) are ∙ ap (λ (rs : Readings). all_vertices rs) read

pub returns-then-vertices-gt-MOST_VERTICES : goal.returns-then-vertices-gt-MOST_VERTICES
returns-then-vertices-gt-MOST_VERTICES g c =
    let have = counted c.vertex_count-vertices.result c.args.bytes.now c.deref.result.now c.in_ok-pieces.pieces.items c.vertex_count-vertices.ensures c.deref.ensures.value c.in_ok-pieces.ensures in
    let refused = c.refused-then-vertices-gt-MOST_VERTICES in
    refused_vertices c.args.request.now c.args.bytes.now c.piece_count-count.result c.vertex_count-vertices.result refused.result c.piece_count-count.ensures c.if-count-gt-MOST_JOBS.false have c.if-vertices-gt-MOST_VERTICES.true refused.ensures

pub run_jobs-requires-clause-some_job : goal.run_jobs-requires-clause-some_job
run_jobs-requires-clause-some_job g c κs within = some_texts _ c.args.bytes.now _ c.in_ok-pieces.ensures

pub run_jobs-requires-clause-few_jobs : goal.run_jobs-requires-clause-few_jobs
run_jobs-requires-clause-few_jobs g c κs within = few_texts _ c.args.bytes.now _ c.piece_count-count.result c.in_ok-pieces.ensures c.piece_count-count.ensures c.if-count-gt-MOST_JOBS.false

pub returns : goal.returns
returns g c =
    let have = counted c.vertex_count-vertices.result c.args.bytes.now c.deref.result.now c.in_ok-pieces.pieces.items c.vertex_count-vertices.ensures c.deref.ensures.value c.in_ok-pieces.ensures in (
      accepted c.args.bytes.now c.piece_count-count.result c.vertex_count-vertices.result c.piece_count-count.ensures c.if-count-gt-MOST_JOBS.false have c.if-vertices-gt-MOST_VERTICES.false,
      c.in_ok-run_jobs.ensures ∙ batch_text-by_one c.args.request.now 1 c.args.bytes.now _ c.in_ok-pieces.ensures,
    )
