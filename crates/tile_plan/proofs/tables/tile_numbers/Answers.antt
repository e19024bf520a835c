use Rattle.tile_plan.proofs.Growing.{IsTable-push}
use Rattle.tile_plan.proofs.Laying.{tile-read}
use Rattle.tile_plan.proofs.tables.tile_numbers.Goals as goal

pub loop-place-preserved : goal.loop-place-preserved
loop-place-preserved c =
    rw c.in_ok-push.ensures.items (IsTable-push _ _ _ _ c.loop-place.invariant (tile-read c.args.grid c.loop-place.place c.tile_at.result c.requires c.tile_at.ensures.value))
