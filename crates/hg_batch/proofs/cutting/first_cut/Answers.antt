use Rattle.hg_batch.proofs.PieceLemmas.{found_first}
use Rattle.hg_batch.proofs.cutting.first_cut.Goals as goal

pub returns-clause-first : goal.returns-clause-first
returns-clause-first c = found_first c.args.bytes.now c.memchr.result c.memchr.ensures
