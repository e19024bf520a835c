use Rattle.std.proofs.Common.{rules, ◌≡◌, ap, arith}
use Rattle.std.proofs.lemmas.Grind.{common_steps}
use Rattle.tile_plan.specs.Plan.{root, side}
use Rattle.tile_plan.specs.declared.site.Side.TheVariants as sides
use Rattle.merge_board.specs.Board.{toll_of}
use Rattle.merge_board.proofs.Places.{root_toll}
use Rattle.merge_board.proofs.place.toll.Goals as goal

pub returns-then-number-root : goal.returns-then-number-root
returns-then-number-root c =
    let e : c.args.number ≡ root c.args.plan.now = first_of (search rules, grind (arith, common_steps)) in
    root_toll c.args.plan.now c.args.number c.requires.plan c.requires.part e

pub returns-in-Left : goal.returns-in-Left
returns-in-Left c =
    let on : sides.Left ≡ side c.args.plan.now c.args.number = first_of (search rules, grind (arith, common_steps)) in
    ap toll_of on

pub returns-in-Right : goal.returns-in-Right
returns-in-Right c =
    let on : sides.Right ≡ side c.args.plan.now c.args.number = first_of (search rules, grind (arith, common_steps)) in
    ap toll_of on
