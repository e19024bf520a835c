use Rattle.std.proofs.Common.{◌≡◌, All, length}
use Rattle.hg_base.specs.Labels.{IsLabel}
use Rattle.tree_tests.proofs.label_writer_tests.labels_of.Given as goal

-- the labels so far are labels
abbrev pub invariant-loop-label : goal.invariant-loop-label
invariant-loop-label g l = record { count : length l.labels.items ≡ l.label-index; each : All (IsLabel l.count) l.labels.items }
