use Rattle.std.proofs.Common.{[]}
use Rattle.pgm_reader.proofs.decoder.read_picture.Goals as goal

pub returns-in-Ok-feed : goal.returns-in-Ok-feed
returns-in-Ok-feed c = c.finish.ensures.read c.args.bytes.now (c.feed.ensures.read [] c.in-Ok.ensures.read)
