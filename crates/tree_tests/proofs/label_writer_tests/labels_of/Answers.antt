use Rattle.std.proofs.Common.{arith}
use Rattle.tree_tests.proofs.label_writer_tests.labels_of.Goals as goal

pub new-requires : goal.new-requires
new-requires g c = record {
  some = omega (arith, c.loop-label.invariant.count);
  few = omega (arith, c.loop-label.invariant.count);
  each = c.loop-label.invariant.each;
}
