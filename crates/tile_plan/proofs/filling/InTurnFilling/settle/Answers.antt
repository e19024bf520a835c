use Rattle.std.proofs.Common.{◌≡◌, ℕ, arith}
use Rattle.tile_plan.specs.TiledPictures.{home_in}
use Rattle.tile_plan.proofs.Filled.{filled_more}
use Rattle.tile_plan.proofs.filling.InTurnFilling.settle.Goals as goal

pub loop-vertex-preserved : goal.loop-vertex-preserved
loop-vertex-preserved c =
    filled_more (λ (i x : ℕ). x ≡ home_in c.args.frame i) c.loop-vertex.homes c.loop-vertex.vertex c.home.result c.loop-vertex.invariant c.home.ensures (omega arith)
