use Rattle.std.proofs.Common.{◌≡◌, ℕ, ◌<◌, get_or}
use Rattle.tile_plan.specs.TiledPictures.{home_in}
use Rattle.tile_plan.proofs.filling.InTurnFilling.settle.Given as goal

abbrev pub invariant-loop-vertex : goal.invariant-loop-vertex
invariant-loop-vertex l = (i d : ℕ) → i < l.vertex → get_or l.homes i d ≡ home_in l.frame i
