use Rattle.std.proofs.Common.{◌≡◌, ℕ, arith, slice_index}
use Rattle.hg_base.specs.declared.graph.PlacedEdge.{PlacedEdge}
use Rattle.tile_plan.specs.Dealing.{laid}
use Rattle.tile_plan.proofs.Filled.{filled_more}
use Rattle.tile_plan.proofs.filling.InTurnFilling.lay.Goals as goal

pub loop-place-preserved : goal.loop-place-preserved
loop-place-preserved c =
    let make = laid c.args.places.now c.args.order.now.edges in
    filled_more (λ (i : ℕ) (x : PlacedEdge). x ≡ make (slice_index c.args.ranks.now i)) c.loop-place.lots c.loop-place.place c.laid.result c.loop-place.invariant c.laid.ensures (omega arith)
