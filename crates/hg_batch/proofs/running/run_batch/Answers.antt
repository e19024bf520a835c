use Rattle.higra_input.specs.Reading.{told}
use Rattle.hg_batch.proofs.RunningLemmas.{complete_from}
use Rattle.hg_batch.specs.declared.ending.BatchStatus.TheVariants as statuses
use Rattle.hg_batch.proofs.running.run_batch.Goals as goal

pub returns-in-Ok-clause-complete : goal.returns-in-Ok-clause-complete
returns-in-Ok-clause-complete g c = λ request bytes asked are still.
    let old = told (g.S.Source.left c.args.source.now) (g.S.Source.faults c.args.source.now) in
    let new = told (g.S.Source.left c.work.new.source) (g.S.Source.faults c.work.new.source) in
    let out = told (g.K.Sink.content c.args.out.now) (g.K.Sink.faults c.args.out.now) in
    let out' = told (g.K.Sink.content c.work.new.out) (g.K.Sink.faults c.work.new.out) in
    complete_from c.args.words.now request bytes old new out out' statuses.Success c.in-Ok.ensures.ends asked are still

pub returns-in-Err-clause-complete : goal.returns-in-Err-clause-complete
returns-in-Err-clause-complete g c = λ request bytes asked are still.
    let old = told (g.S.Source.left c.args.source.now) (g.S.Source.faults c.args.source.now) in
    let new = told (g.S.Source.left c.work.new.source) (g.S.Source.faults c.work.new.source) in
    let out = told (g.K.Sink.content c.args.out.now) (g.K.Sink.faults c.args.out.now) in
    let out' = told (g.K.Sink.content c.work.new.out) (g.K.Sink.faults c.work.new.out) in
    complete_from c.args.words.now request bytes old new out out' c.in-Err.status c.in-Err.ensures.ends asked are still
