use Rattle.std.proofs.Common.{◌-◌, ◌^◌}
use Rattle.border_climb.specs.Splicing.{rank_of, KeepsRange, StepsTo}
use Rattle.border_climb.proofs.splicing.merge.Given as goal

abbrev pub invariant-loop-seam : goal.invariant-loop-seam
invariant-loop-seam l = record {
  steps : StepsTo l.initial.region l.initial.seam.last l.initial.seam.first l.initial.seam.second l.region l.seam.last l.seam.first l.seam.second;
  range : KeepsRange l.initial.region l.region;
}

abbrev pub decreases-loop-seam : goal.decreases-loop-seam
decreases-loop-seam l = 2 ^ 32 - rank_of l.region l.seam.last
