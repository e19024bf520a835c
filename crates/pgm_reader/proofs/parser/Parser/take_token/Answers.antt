use Rattle.pgm_reader.proofs.parser.Parser.take_token.Goals as goal

pub returns-in-Greatest : goal.returns-in-Greatest
returns-in-Greatest c = rw c.in-Greatest.is (c.take_greatest.ensures c.args.place c.args.b)
