use Rattle.std.proofs.Common.{sym, ◌∙◌}
use Rattle.tile_plan.proofs.Cuts.{number-one, number-merge}
use Rattle.tile_plan.proofs.site.number.Goals as goal

pub returns-then-tiles-eq1 : goal.returns-then-tiles-eq1
returns-then-tiles-eq1 c = λ t h. number-one _ _ _ t _ h (sym (c.tiles-tiles.ensures.tree t h) ∙ c.if-tiles-eq1.true)

pub returns-else-tiles-eq1 : goal.returns-else-tiles-eq1
returns-else-tiles-eq1 c = λ t h. number-merge _ _ t _ (c.tiles-tiles.ensures.tree t h) c.if-tiles-eq1.false
