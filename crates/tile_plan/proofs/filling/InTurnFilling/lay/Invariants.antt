use Rattle.std.proofs.Common.{◌≡◌, ℕ, ◌<◌, get_or, slice_index}
use Rattle.hg_base.specs.declared.graph.PlacedEdge.{PlacedEdge}
use Rattle.tile_plan.specs.Dealing.{laid}
use Rattle.tile_plan.proofs.filling.InTurnFilling.lay.Given as goal

abbrev pub invariant-loop-place : goal.invariant-loop-place
invariant-loop-place l = (i : ℕ) (d : PlacedEdge) → i < l.place → get_or l.lots i d ≡ laid l.places l.order.edges (slice_index l.ranks i)
