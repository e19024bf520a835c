use Rattle.higra_input.specs.Reading.{told}
use Rattle.hg_batch.proofs.RunningLemmas.{EndsWork-read}
use Rattle.hg_batch.proofs.running.work.Goals as goal

pub returns-in_err-bytes-clause-ends : goal.returns-in_err-bytes-clause-ends
returns-in_err-bytes-clause-ends g c =
    let old = told (g.S.Source.left c.args.source.now) (g.S.Source.faults c.args.source.now) in
    let new = told (g.S.Source.left c.read_all.new.source) (g.S.Source.faults c.read_all.new.source) in
    let out = told (g.K.Sink.content c.args.out.now) (g.K.Sink.faults c.args.out.now) in
    EndsWork-read c.args.words.now c.in_ok-request.request old new out c.in_err-bytes.field-0.0 c.from_residual-in_err-bytes.result c.in_ok-request.ensures.request c.in_err-bytes.ensures.gets c.from_residual-in_err-bytes.ensures.1
