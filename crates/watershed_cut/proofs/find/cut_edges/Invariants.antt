use Rattle.std.proofs.Common.{◌≡◌, ℕ, ◌<◌, get_or}
use Rattle.std.specs.Prelude.{◌==◌, not, filter}
use Rattle.std.specs.List.{range_with_len}
use Rattle.hg_base.specs.Graph.{first_end, second_end}
use Rattle.watershed_cut.specs.Plateaus.{HasTwoEnds}
use Rattle.watershed_cut.proofs.find.cut_edges.Given as goal

-- the cut edges so far
abbrev pub invariant-loop-e : goal.invariant-loop-e
invariant-loop-e l = ((e : ℕ) → e < l.e → HasTwoEnds l.graph e) × (l.cut.items ≡ filter (λ e. not (get_or l.labels (first_end l.graph e) 0 == get_or l.labels (second_end l.graph e) 0)) (range_with_len 0 l.e))
