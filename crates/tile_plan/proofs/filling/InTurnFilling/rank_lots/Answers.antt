use Rattle.std.proofs.Common.{◌≡◌, ℕ, arith, slice_index}
use Rattle.edge_order.specs.Order.{number_at_rank}
use Rattle.tile_plan.proofs.Filled.{filled_more}
use Rattle.tile_plan.proofs.filling.InTurnFilling.rank_lots.Goals as goal

pub loop-rank-preserved : goal.loop-rank-preserved
loop-rank-preserved c =
    filled_more (λ (i x : ℕ). x ≡ slice_index c.args.own.now (number_at_rank c.args.order.now i)) c.loop-rank.numbers c.loop-rank.rank c.kept_at.result c.loop-rank.invariant c.kept_at.ensures (omega arith)
