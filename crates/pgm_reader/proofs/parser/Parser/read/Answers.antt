use Rattle.pgm_reader.proofs.parser.Parser.read.Goals as goal

pub returns-in-Form : goal.returns-in-Form
returns-in-Form c = c.read_form.ensures c.args.b
