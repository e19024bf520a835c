use Rattle.std.proofs.Common.{◌∙◌}
use Rattle.higra_cli.proofs.RunningLemmas.{AppendsPrefix-either}
use Rattle.higra_cli.proofs.running.write_line.Goals as goal

pub returns-clause-line : goal.returns-clause-line
returns-clause-line g c =
    AppendsPrefix-either c.write_all.result _ _ c.as_bytes.result.now _ (c.as_bytes.ensures ∙ c.of-line.ensures) c.write_all.ensures.all c.write_all.ensures.prefix
