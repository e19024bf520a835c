use Rattle.std.proofs.Common.{◌+◌}
use Rattle.tile_plan.proofs.site.Grid.+tile_at.Given as goal

-- the grids are cut into lesser ones
abbrev pub decreases-tile_at : goal.decreases-tile_at
decreases-tile_at l = l.self.columns + l.self.rows
