use Rattle.std.proofs.Common.{arith}
use Rattle.hg_batch.proofs.TextLemmas.{length-texts}
use Rattle.hg_batch.proofs.batch.BatchJob.count.Goals as goal

pub returns : goal.returns
returns c = omega (arith, c.len.ensures, length-texts c.self.inside c.args.self.now c.self.view_is)
