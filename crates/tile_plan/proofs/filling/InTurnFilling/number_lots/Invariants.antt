use Rattle.std.proofs.Common.{ℕ, ◌<◌, get_or}
use Rattle.tile_plan.specs.Dealing.{IsLotOf}
use Rattle.tile_plan.proofs.filling.InTurnFilling.number_lots.Given as goal

abbrev pub invariant-loop-number : goal.invariant-loop-number
invariant-loop-number l = (i d : ℕ) → i < l.number → IsLotOf l.grid l.homes l.graph.edges i (get_or l.numbers i d)
