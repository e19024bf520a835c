use Rattle.std.proofs.Common.{◌≤◌, arith, sym, subst}
use Rattle.tile_plan.specs.declared.site.Grid.{Grid}
use Rattle.tile_plan.specs.Grids.{tiles_in}
use Rattle.tile_plan.proofs.Laying.{grid-few, grid-columns, grid-rows}
use Rattle.tile_plan.proofs.frame.Frame.tiles.Goals as goal

pub overflow_mul-result : goal.overflow_mul-result
overflow_mul-result c =
    let few = subst (λ (g : Grid). tiles_in g ≤ 1048576) (sym c.grid-grid.ensures) (grid-few c.args.self c.requires) in
    omega (arith, few)

pub returns-clause-small : goal.returns-clause-small
returns-clause-small c = λ few. record { columns = grid-columns c.args.self c.requires; rows = grid-rows c.args.self c.requires; few = subst (λ (g : Grid). tiles_in g ≤ 65536) c.grid-grid.ensures few }
