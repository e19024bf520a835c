use Rattle.tile_plan.proofs.Descents.{is_left-merge}
use Rattle.tile_plan.proofs.site.is_left.Goals as goal

pub returns-else-p-n : goal.returns-else-p-n
returns-else-p-n c = λ x e. is_left-merge c.args.n c.args.first c.args.p x c.args.site e c.if-p-n.false
