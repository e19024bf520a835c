use Rattle.pgm_reader.proofs.HeaderTokens.{first-cut}
use Rattle.pgm_reader.proofs.laws.header_tokens_are_tokens.Goals as goal

pub returns : goal.returns
returns c = first-cut
