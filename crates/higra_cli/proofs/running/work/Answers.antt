use Rattle.std.proofs.Common.{sym, ◌∙◌}
use Rattle.higra_cli.proofs.RunningLemmas.{read_not_usage, unwritten_by, write_not_usage, Ends-stopped, Ends-unwritten, Ends-written}
use Rattle.higra_input.specs.Reading.{told}
use Rattle.higra_cli.proofs.running.work.Goals as goal

pub returns-in-Err-input_for-clause-ends : goal.returns-in-Err-input_for-clause-ends
returns-in-Err-input_for-clause-ends g c =
    Ends-stopped c.args.words.now c.in-Ok.request (told (g.S.Source.left c.args.source.now) (g.S.Source.faults c.args.source.now)) (told (g.S.Source.left c.input_for.new.source) (g.S.Source.faults c.input_for.new.source))
    (told (g.K.Sink.content c.args.out.now) (g.K.Sink.faults c.args.out.now)) c.in-Err-input_for.fault c.from-in-Err-input_for.result c.from-in-Err-input_for.ensures c.in-Ok.ensures.request c.in-Err-input_for.ensures.ends

pub returns-in-Err-input_for-clause-unread : goal.returns-in-Err-input_for-clause-unread
returns-in-Err-input_for-clause-unread g c is = absurd (read_not_usage c.in-Err-input_for.fault (sym c.from-in-Err-input_for.ensures ∙ is))

pub returns-in-Ok-write_report-clause-ends : goal.returns-in-Ok-write_report-clause-ends
returns-in-Ok-write_report-clause-ends g c =
    Ends-written c.args.words.now c.in-Ok.request c.in-Ok-input_for.input (told (g.S.Source.left c.args.source.now) (g.S.Source.faults c.args.source.now)) (told (g.S.Source.left c.input_for.new.source) (g.S.Source.faults c.input_for.new.source))
    (told (g.K.Sink.content c.args.out.now) (g.K.Sink.faults c.args.out.now)) (told (g.K.Sink.content c.write_report.new.out) (g.K.Sink.faults c.write_report.new.out)) c.in-Ok-write_report.receipt c.in-Ok.ensures.request c.in-Ok-input_for.ensures.ends.0 c.in-Ok-input_for.ensures.ends.1 c.in-Ok-write_report.ensures.ends

pub returns-clause-ends : goal.returns-clause-ends
returns-clause-ends g c =
    Ends-unwritten c.args.words.now c.in-Ok.request c.in-Ok-input_for.input (told (g.S.Source.left c.args.source.now) (g.S.Source.faults c.args.source.now)) (told (g.S.Source.left c.input_for.new.source) (g.S.Source.faults c.input_for.new.source))
    (told (g.K.Sink.content c.args.out.now) (g.K.Sink.faults c.args.out.now)) (told (g.K.Sink.content c.write_report.new.out) (g.K.Sink.faults c.write_report.new.out)) c.in-Err-write_report.fault c.from-in-Err-write_report.result c.from-in-Err-write_report.ensures c.in-Ok.ensures.request c.in-Ok-input_for.ensures.ends.0 c.in-Ok-input_for.ensures.ends.1 c.in-Err-write_report.ensures.ends

pub returns-clause-unread : goal.returns-clause-unread
returns-clause-unread g c is = absurd (write_not_usage c.in-Err-write_report.fault (sym c.from-in-Err-write_report.ensures ∙ is))

pub returns-clause-unwritten : goal.returns-clause-unwritten
returns-clause-unwritten g c unsuccessful unfailed = unwritten_by c.in-Err-write_report.fault c.from-in-Err-write_report.result c.args.out.now c.write_report.new.out c.from-in-Err-write_report.ensures c.in-Err-write_report.ensures.unwritten unfailed
