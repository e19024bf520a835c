use Rattle.std.proofs.Common.{List, map, sym, subst}
use Rattle.edge_laws.specs.Placed.{placed}
use Rattle.hg_base.specs.declared.graph.PlacedEdge.{PlacedEdge}
use Rattle.border_climb.specs.Parts.{CanJoin}
use Rattle.tile_plan.specs.Plan.{left, right, edges_at, lot_edges}
use Rattle.merge_board.proofs.Joins.{halves_next, border_fits, joined_fits, lots_length}
use Rattle.merge_board.proofs.serving.merged.Goals as goal

pub join-requires-clause-next : goal.join-requires-clause-next
join-requires-clause-next c = halves_next c.args.plan.now c.args.merge c.args.left_half c.args.right_half c.keeps_its_rules.ensures.plan c.requires.merge c.requires.part c.requires.left c.requires.right

pub join-requires-clause-left_lots : goal.join-requires-clause-left_lots
join-requires-clause-left_lots c = lots_length c.args.plan.now (left c.args.plan.now c.args.merge) c.args.left_half c.requires.left

pub join-requires-clause-right_lots : goal.join-requires-clause-right_lots
join-requires-clause-right_lots c = lots_length c.args.plan.now (right c.args.plan.now c.args.merge) c.args.right_half c.requires.right

pub join-requires-clause-lists : goal.join-requires-clause-lists
join-requires-clause-lists c =
    let p = c.args.plan.now in
    let border : CanJoin c.args.left_half c.args.right_half (map placed (lot_edges p c.args.merge)) (edges_at p (left p c.args.merge)) (edges_at p (right p c.args.merge)) =
    border_fits p c.args.merge c.args.left_half c.args.right_half c.keeps_its_rules.ensures.plan c.requires.merge c.requires.part c.requires.left c.requires.right in
    (edges_at p (left p c.args.merge), (edges_at p (right p c.args.merge), subst (λ (l : List PlacedEdge). CanJoin c.args.left_half c.args.right_half l (edges_at p (left p c.args.merge)) (edges_at p (right p c.args.merge))) (sym c.lot.ensures.value) border))

pub returns : goal.returns
returns c =
    let p = c.args.plan.now in
    let border : CanJoin c.args.left_half c.args.right_half c.lot.result.now (edges_at p (left p c.args.merge)) (edges_at p (right p c.args.merge)) =
    subst (λ (l : List PlacedEdge). CanJoin c.args.left_half c.args.right_half l (edges_at p (left p c.args.merge)) (edges_at p (right p c.args.merge))) (sym c.lot.ensures.value)
    (border_fits p c.args.merge c.args.left_half c.args.right_half c.keeps_its_rules.ensures.plan c.requires.merge c.requires.part c.requires.left c.requires.right) in
    joined_fits p c.args.merge c.args.left_half c.args.right_half c.keeps_its_rules.ensures.plan c.requires.merge c.requires.part c.requires.left c.requires.right c.join.result
    (c.join.ensures.stands (edges_at p (left p c.args.merge)) (edges_at p (right p c.args.merge)) (lot_edges p c.args.merge) border (sym c.lot.ensures.value))
    c.join.ensures.lots c.join.ensures.sums.first c.join.ensures.sums.count c.join.ensures.sums.chunks c.join.ensures.sums.room
