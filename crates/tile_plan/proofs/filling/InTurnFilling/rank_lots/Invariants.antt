use Rattle.std.proofs.Common.{◌≡◌, ℕ, ◌<◌, get_or, slice_index}
use Rattle.edge_order.specs.Order.{number_at_rank}
use Rattle.tile_plan.proofs.filling.InTurnFilling.rank_lots.Given as goal

abbrev pub invariant-loop-rank : goal.invariant-loop-rank
invariant-loop-rank l = (i d : ℕ) → i < l.rank → get_or l.numbers i d ≡ slice_index l.own (number_at_rank l.order i)
