use Rattle.std.proofs.Common.{◌∙◌, sym}
use Rattle.tile_plan.proofs.Descents.{find-one, find-own, find-right}
use Rattle.tile_plan.proofs.site.+find.Goals as goal

pub returns-then-tiles-eq1 : goal.returns-then-tiles-eq1
returns-then-tiles-eq1 t c = λ t' h. find-one _ _ _ _ _ t' _ h (c.tiles-tiles.ensures.tree t' h) c.if-tiles-eq1.true

pub returns-then-p-own : goal.returns-then-p-own
returns-then-p-own t c = λ t' h.
    find-own _ _ _ _ _ _ _ _ t' _ _ _ _ _ (c.halves.ensures.tree t' h) (c.number-own.ensures t' h)
    (record { left = c.left_site-left.ensures.same; right = c.right_site-right.ensures; first_tiles = c.tiles.ensures.tree; second_tiles = c.tiles-2.ensures.tree })
    (c.tiles-tiles.ensures.tree t' h) c.if-p-own.true c.number.ensures c.number-then-p-own.ensures

pub returns-else-is_left : goal.returns-else-is_left
returns-else-is_left t c = λ t' h.
    find-right _ _ _ _ _ t' _ _ _ _ _ _ (c.halves.ensures.tree t' h) (c.number-own.ensures t' h)
    (record { left = c.left_site-left.ensures.same; right = c.right_site-right.ensures; first_tiles = c.tiles.ensures.tree; second_tiles = c.tiles-2.ensures.tree })
    c.if-p-own.false (λ x e. sym (c.if-is_left.ensures x (e ∙ c.tiles.ensures.value ∙ sym c.tiles-else-p-own.ensures.value)))
    c.find-else-is_left.ensures
