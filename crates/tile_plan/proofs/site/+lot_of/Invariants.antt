use Rattle.std.proofs.Common.{◌+◌}
use Rattle.tile_plan.proofs.site.+lot_of.Given as goal

-- the grids are cut into lesser ones
abbrev pub decreases-lot_of : goal.decreases-lot_of
decreases-lot_of l = l.grid.columns + l.grid.rows
