use Rattle.std.proofs.Common.{sym}
use Rattle.pgm_reader.proofs.BytesRead.{takes-width, width-fault}
use Rattle.pgm_reader.proofs.parser.Parser.take_width.Goals as goal

pub returns-in-Ok : goal.returns-in-Ok
returns-in-Ok c =
    rw (← c.self.view_is) (takes-width _ c.args.found c.args.place c.args.b c.in-Ok.width c.behind.result (sym c.in-Ok.ensures.value) (λ place rest hash. c.behind.ensures.tokens place rest hash c.requires.ended))

pub returns-in-Err : goal.returns-in-Err
returns-in-Err c = rw (← c.self.view_is) (width-fault _ c.args.found c.args.place c.args.b c.in-Err.fault (sym c.in-Err.ensures.value))
