use Rattle.std.proofs.Common.{◌+◌}
use Rattle.tile_plan.proofs.site.+find.Given as goal

-- the grids are cut into lesser ones
abbrev pub decreases-find : goal.decreases-find
decreases-find l = l.grid.columns + l.grid.rows
