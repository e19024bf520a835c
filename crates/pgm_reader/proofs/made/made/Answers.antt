use Rattle.pgm_reader.proofs.Generating.{made-is}
use Rattle.pgm_reader.proofs.made.made.Goals as goal

pub new-requires : goal.new-requires
new-requires c = rw c.in_ok-samples.ensures (made-is c.args.side c.args.seed c.requires.some c.requires.most)
