use Rattle.pgm_reader.proofs.BytesRead.{takes-sample}
use Rattle.pgm_reader.proofs.parser.Parser.take_sample.Goals as goal

pub returns-else-sample-self : goal.returns-else-sample-self
returns-else-sample-self c = rw (← c.self.view_is, c.push_reserved.ensures.items) (takes-sample _ c.args.place c.args.sample c.if-sample-self.false)
