use Rattle.std.proofs.Common.{◌≡◌, ◌++◌, take}
use Rattle.std.specs.List.{flat_map}
use Rattle.hg_base.specs.Samples.{sample_bytes}
use Rattle.label_writer.proofs.picture.push_samples.Given as goal

-- the samples of the labels so far are written
abbrev pub invariant-loop-v : goal.invariant-loop-v
invariant-loop-v l = l.bytes.items ≡ l.fn.bytes.items ++ flat_map (sample_bytes l.labels.count) (take l.v l.labels.labels)
