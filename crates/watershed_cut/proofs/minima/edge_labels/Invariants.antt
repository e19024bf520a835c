use Rattle.std.proofs.Common.{◌≡◌, ℕ, ◌<◌, map}
use Rattle.std.specs.List.{range_with_len}
use Rattle.watershed_cut.specs.Plateaus.{HasTwoEnds, level_label}
use Rattle.watershed_cut.proofs.minima.edge_labels.Given as goal

-- the edges so far have their labels, and two ends
abbrev pub invariant-loop-e : goal.invariant-loop-e
invariant-loop-e l = ((e : ℕ) → e < l.e → HasTwoEnds l.graph e) × (l.labels.items ≡ map (level_label l.graph l.tree l.vertices) (range_with_len 0 l.e))
