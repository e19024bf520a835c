use Rattle.std.proofs.Common.{ap}
use Rattle.higra_cli.proofs.exiting.exit_code.Goals as goal

pub returns : goal.returns
returns g c =
    let ran = c.run-status.ensures in (
      c.run-status.result,
      (
        c.code.ensures,
        record {
          usage = ran.usage;
          input = ran.input;
          success = ran.success;
          begun = ran.begun;
          unwritten = λ unsuccessful unfailed. ap (g.K.Sink.content) (ran.unwritten unsuccessful unfailed);
          line = ran.line;
        },
      ),
    )
