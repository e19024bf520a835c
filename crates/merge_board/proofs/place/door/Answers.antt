use Rattle.std.proofs.Common.{rules, ◌≡◌, ◌∙◌, arith}
use Rattle.std.proofs.lemmas.Grind.{common_steps}
use Rattle.tile_plan.specs.Plan.{root}
use Rattle.merge_board.proofs.Places.{root_door}
use Rattle.merge_board.proofs.place.door.Goals as goal

pub returns-then-number-root : goal.returns-then-number-root
returns-then-number-root c =
    let e : c.args.number ≡ root c.args.plan.now = first_of (search rules, grind (arith, common_steps)) in
    c.tiles-tiles.ensures.value ∙ root_door c.args.plan.now c.args.number c.requires.plan c.requires.part e
