-- Each call writes the digits but the last.
use Rattle.higra_cli.proofs.line.FaultLine.+put_number.Given as goal

abbrev pub decreases-put_number : goal.decreases-put_number
decreases-put_number l = l.number
