use Rattle.std.proofs.Common.{arith}
use Rattle.higra_cli.proofs.LineLemmas.{put_digit}
use Rattle.higra_cli.proofs.line.FaultLine.+put_number.Goals as goal

pub returns-else-number-lt10-clause-line : goal.returns-else-number-lt10-clause-line
returns-else-number-lt10-clause-line t c = put_digit _ _ _ _ (omega arith) c.ranges.number.fits c.put_number.ensures.line c.put-else-number-lt10.ensures.line
