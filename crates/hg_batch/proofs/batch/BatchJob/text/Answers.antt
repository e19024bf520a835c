use Rattle.std.proofs.Common.{arith}
use Rattle.hg_batch.proofs.TextLemmas.{length-texts, made_text, text_at}
use Rattle.hg_batch.proofs.batch.BatchJob.text.Goals as goal

pub index-requires : goal.index-requires
index-requires g c = omega (arith, c.requires.job, length-texts c.self.inside c.args.self.now c.self.view_is)

pub returns : goal.returns
returns g c =
    let at = text_at c.self.inside c.args.self.now c.args.job c.index.result.now c.self.view_is (omega (arith, c.requires.job, length-texts c.self.inside c.args.self.now c.self.view_is)) c.index.ensures in
    made_text _ _ _ at c.text_of.ensures
