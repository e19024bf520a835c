use Rattle.std.proofs.Common.{rules, ◌≡◌, ℕ, ◌-◌, ◌<◌, ◌≤◌, Some, ap, sym, subst, arith}
use Rattle.tile_plan.specs.Plan.{TilePlan, tile_count, part_count, parent, left, right}
use Rattle.merge_board.specs.declared.view.View.{View}
use Rattle.merge_board.proofs.Doors.{parent_merge, parent_inner, parent_later}
use Rattle.merge_board.specs.Fits.{Fits}
use Rattle.merge_board.proofs.serving.+hand_on.Goals as goal

pub merged-part-requires-clause-merge : goal.merged-part-requires-clause-merge
merged-part-requires-clause-merge g t c =
    let a = c.in-Both.ensures.arrival c.args.number c.requires.hand in
    let above : parent c.args.board.now.plan c.args.number ≡ c.in-Both.merge = sym a.1.0 in
    let low : tile_count c.args.board.now.plan ≤ c.in-Both.merge = subst (λ (m : ℕ). tile_count c.args.board.now.plan ≤ m) above (parent_merge c.args.board.now.plan c.requires.whole c.args.number c.requires.part) in
    subst (λ (q : TilePlan). tile_count q ≤ c.in-Both.merge) (sym c.requires.plan) low

pub merged-part-requires-clause-part : goal.merged-part-requires-clause-part
merged-part-requires-clause-part g t c =
    let a = c.in-Both.ensures.arrival c.args.number c.requires.hand in
    let above : parent c.args.board.now.plan c.args.number ≡ c.in-Both.merge = sym a.1.0 in
    let high : c.in-Both.merge < part_count c.args.board.now.plan = subst (λ (m : ℕ). m < part_count c.args.board.now.plan) above (parent_inner c.args.board.now.plan c.requires.whole c.args.number c.requires.part a.0) in
    subst (λ (q : TilePlan). c.in-Both.merge < part_count q) (sym c.requires.plan) high

pub merged-part-requires-clause-left : goal.merged-part-requires-clause-left
merged-part-requires-clause-left g t c =
    let a = c.in-Both.ensures.arrival c.args.number c.requires.hand in
    subst (λ (q : TilePlan). Fits q (left q c.in-Both.merge) c.in-Both.left) (sym c.requires.plan) a.1.1.1.0

pub merged-part-requires-clause-right : goal.merged-part-requires-clause-right
merged-part-requires-clause-right g t c =
    let a = c.in-Both.ensures.arrival c.args.number c.requires.hand in
    subst (λ (q : TilePlan). Fits q (right q c.in-Both.merge) c.in-Both.right) (sym c.requires.plan) a.1.1.1.1

pub hand_on-requires : goal.hand_on-requires
hand_on-requires g t c κs within =
    let a = c.in-Both.ensures.arrival c.args.number c.requires.hand in
    let above : parent c.args.board.now.plan c.args.number ≡ c.in-Both.merge = sym a.1.0 in
    let high : c.in-Both.merge < part_count c.args.board.now.plan = subst (λ (m : ℕ). m < part_count c.args.board.now.plan) above (parent_inner c.args.board.now.plan c.requires.whole c.args.number c.requires.part a.0) in
    let later : c.args.number < c.in-Both.merge = subst (λ (m : ℕ). c.args.number < m) above (parent_later c.args.board.now.plan c.requires.whole c.args.number c.requires.part) in
    let falls : part_count c.args.board.now.plan - c.in-Both.merge < part_count c.args.board.now.plan - c.args.number = omega arith in
    let hand : c.arrive-arrival.new.seat.view.hand ≡ Some c.in-Both.merge = ap (λ (v : View). v.hand) a.1.1.0 in
    let fits : Fits c.args.board.now.plan c.in-Both.merge c.merged-part.result = subst (λ (q : TilePlan). Fits q c.in-Both.merge c.merged-part.result) c.requires.plan c.merged-part.ensures in
    (first_of (omega (arith, falls, c.decreases), search (rules, falls), grind (arith, falls)), (search rules, (search rules, (c.arrive-arrival.ensures.seat, (c.requires.plan, (hand, (c.requires.whole, (high, fits))))))))
