use Rattle.std.proofs.Common.{◌≡◌, ◌∙◌, ap, arith, ◌-◌, ◌*◌, refl, map, ℕ}
use Rattle.std.specs.List.{range_with_len}
use Rattle.std.proofs.lemmas.List.FromFn.{map-range_with_len_more}
use Rattle.tile_plan.specs.Grids.{grid_tree, rows_of, part_in, row_of_part, tiles_in}
use Rattle.tile_plan.proofs.Laying.{grid_tree-is, part-row}
use Rattle.tile_plan.proofs.tables.parts.Goals as goal

pub loop-part-preserved : goal.loop-part-preserved
loop-part-preserved c =
    let row = part-row c.args.grid c.tiles-n.result c.loop-part.part c.root.result c.find.result c.tiles-n.ensures.value c.root.ensures
    (c.find.ensures (grid_tree c.args.grid) (grid_tree-is c.args.grid c.requires.columns c.requires.rows)) in
    rw (c.in_ok-push.ensures.items, map-range_with_len_more (λ i. row_of_part (tiles_in c.args.grid) (part_in c.args.grid i)) 0 c.loop-part.part c.loop-part.part (omega arith), c.loop-part.invariant, row) refl

pub returns : goal.returns
unfolding rows_of
returns c =
    let all : c.loop-part.part ≡ 2 * tiles_in c.args.grid - 1 = omega (arith, c.tiles-n.ensures.value) in
    c.loop-part.invariant ∙ ap (λ (k : ℕ). map (λ i. row_of_part (tiles_in c.args.grid) (part_in c.args.grid i)) (range_with_len 0 k)) all
