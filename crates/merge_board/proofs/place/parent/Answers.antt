use Rattle.std.proofs.Common.{rules, ◌≡◌, ℕ, ◌<◌, ◌≤◌, sym, subst, arith}
use Rattle.std.proofs.lemmas.Grind.{common_steps}
use Rattle.tile_plan.specs.Plan.{tile_count, part_count, parent}
use Rattle.merge_board.proofs.Doors.{parent_merge, parent_inner}
use Rattle.merge_board.proofs.place.parent.Goals as goal

pub returns-clause-merge : goal.returns-clause-merge
returns-clause-merge c =
    let e : c.in-Some.above.0 ≡ parent c.args.plan.now c.args.number = first_of (search rules, grind (arith, common_steps)) in
    subst (λ (m : ℕ). tile_count c.args.plan.now ≤ m) (sym e) (parent_merge c.args.plan.now c.requires.plan c.args.number c.requires.part)

pub returns-clause-last : goal.returns-clause-last
returns-clause-last c =
    let e : c.in-Some.above.0 ≡ parent c.args.plan.now c.args.number = first_of (search rules, grind (arith, common_steps)) in
    subst (λ (m : ℕ). m < part_count c.args.plan.now) (sym e) (parent_inner c.args.plan.now c.requires.plan c.args.number c.requires.part c.requires.inner)
