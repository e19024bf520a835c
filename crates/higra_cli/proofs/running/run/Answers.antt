use Rattle.std.proofs.Common.{ap}
use Rattle.higra_cli.proofs.RunningLemmas.{too_long_from}
use Rattle.higra_input.specs.Reading.{told}
use Rattle.higra_cli.proofs.running.run.Goals as goal

pub returns-clause-too_long : goal.returns-clause-too_long
returns-clause-too_long g c had bytes is much still =
    too_long_from c.args.words.now had bytes (told (g.S.Source.left c.args.source.now) (g.S.Source.faults c.args.source.now)) (told (g.S.Source.left c.work-status.new.source) (g.S.Source.faults c.work-status.new.source))
    (told (g.K.Sink.content c.args.out.now) (g.K.Sink.faults c.args.out.now)) (told (g.K.Sink.content c.work-status.new.out) (g.K.Sink.faults c.work-status.new.out)) c.work-status.result c.work-status.ensures.ends (λ usage. ap g.S.Source.left (c.work-status.ensures.unread usage)) is much still
