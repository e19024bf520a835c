use Rattle.std.proofs.Common.{refl}
use Rattle.contour_map.proofs.Scales.{highest-more, most-more}
use Rattle.contour_map.proofs.scaling.highest.Goals as goal

pub loop-value-preserved : goal.loop-value-preserved
loop-value-preserved c = record {
  value = highest-more c.args.values.now c.loop-value.value-index c.loop-value.high _ c.greater-high.result c.loop-value-test.true refl c.greater-high.ensures c.loop-value.invariant.value;
  most = most-more c.args.values.now c.loop-value.value-index c.loop-value.high _ c.greater-high.result c.loop-value-test.true refl c.greater-high.ensures c.loop-value.invariant.most;
}
