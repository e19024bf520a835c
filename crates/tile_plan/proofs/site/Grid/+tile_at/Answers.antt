use Rattle.std.proofs.Common.{◌∙◌, sym, refl}
use Rattle.tile_plan.proofs.Cuts.{tree_of_one}
use Rattle.tile_plan.proofs.site.Grid.+tile_at.Goals as goal

pub returns-then-tiles-eq1-clause-value : goal.returns-then-tiles-eq1-clause-value
returns-then-tiles-eq1-clause-value t c = λ t' h. rw (tree_of_one _ _ t' h (sym (c.tiles.ensures.tree t' h) ∙ c.if-tiles-eq1.true)) refl
