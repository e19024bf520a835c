use Rattle.std.proofs.Common.{sym}
use Rattle.tile_plan.proofs.Cuts.{tiles-cut}
use Rattle.tile_plan.proofs.site.Grid.tiles.Goals as goal

pub returns-clause-tree : goal.returns-clause-tree
returns-clause-tree c = λ t h. sym (tiles-cut c.args.self.columns c.args.self.rows t h)
