use Rattle.std.proofs.Common.{sym}
use Rattle.pgm_reader.proofs.BytesRead.{takes-height, height-fault}
use Rattle.pgm_reader.proofs.parser.Parser.take_height.Goals as goal

pub returns-in-Ok : goal.returns-in-Ok
returns-in-Ok c =
    rw (← c.self.view_is) (takes-height _ c.args.found c.args.place c.args.b c.in-Ok.height c.behind.result (sym c.in-Ok.ensures.value) (λ place rest hash. c.behind.ensures.tokens place rest hash c.requires.ended))

pub returns-in-Err : goal.returns-in-Err
returns-in-Err c = rw (← c.self.view_is) (height-fault _ c.args.found c.args.place c.args.b c.in-Err.fault (sym c.in-Err.ensures.value))
