use Rattle.std.proofs.Common.{sym}
use Rattle.pgm_reader.proofs.BytesRead.{takes-greatest, takes-none, greatest-fault}
use Rattle.pgm_reader.proofs.parser.Parser.take_greatest.Goals as goal

pub returns-in-Ok-with_capacity : goal.returns-in-Ok-with_capacity
returns-in-Ok-with_capacity c = λ place b. rw (← c.self.view_is, c.in-Ok-with_capacity.ensures.items) (takes-greatest _ c.args.found place b c.in-Ok.max (sym c.in-Ok.ensures.value))

pub returns-in-Err-with_capacity : goal.returns-in-Err-with_capacity
returns-in-Err-with_capacity c = λ place b. rw (← c.self.view_is) (takes-none _ c.args.found place b)

pub returns-in-Err : goal.returns-in-Err
returns-in-Err c = λ place b. rw (← c.self.view_is) (greatest-fault _ c.args.found place b c.in-Err.fault (sym c.in-Err.ensures.value))
