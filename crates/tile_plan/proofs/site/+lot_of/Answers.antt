use Rattle.std.proofs.Common.{◌∙◌, sym, refl, arith}
use Rattle.tile_plan.proofs.Descents.{lot-one, lot-right}
use Rattle.tile_plan.proofs.site.+lot_of.Goals as goal

pub returns-then-tiles-eq1 : goal.returns-then-tiles-eq1
returns-then-tiles-eq1 t c = λ t' h. lot-one _ _ _ _ _ t' _ (sym (c.tiles.ensures.tree t' h) ∙ c.if-tiles-eq1.true) h (c.number-own.ensures t' h)

pub returns-then-border-b : goal.returns-then-border-b
returns-then-border-b t c = λ t' h.
    lot-right c.args.n c.number-own.result _ _ c.args.a c.args.b _ t' _ _ c.args.site _ _ (c.halves.ensures.tree t' h) (c.number-own.ensures t' h)
    (record { left = refl; right = c.right_site-right.ensures; first_tiles = c.tiles-then-border-b.ensures.tree; second_tiles = c.tiles-then-border-b-2.ensures.tree })
    (omega (arith, c.tiles-2.ensures.value, c.tiles-then-border-b.ensures.value)) (omega (arith, c.tiles-2.ensures.value, c.tiles-then-border-b.ensures.value))
    c.lot_of-then-border-b.ensures
