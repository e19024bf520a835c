use Rattle.std.proofs.Common.{◌≡◌, ℕ, ◌++◌, subst}
use Rattle.hg_base.specs.Samples.{sample_bytes}
use Rattle.label_writer.proofs.WriterLemmas.{next_sample}
use Rattle.label_writer.proofs.picture.push_samples.Goals as goal

pub loop-v-preserved : goal.loop-v-preserved
loop-v-preserved c =
    next_sample (sample_bytes c.args.labels.now.count) c.args.labels.now.labels c.args.bytes.now.items c.loop-v.bytes.items c.push_sample.new.bytes.items c.loop-v.v _
    c.loop-v.invariant c.label.ensures.value
    (subst (λ (n : ℕ). c.push_sample.new.bytes.items ≡ c.loop-v.bytes.items ++ sample_bytes n c.label.result) c.count.ensures c.in_ok-push_sample.ensures)
