use Rattle.std.proofs.Common.{List, sym, subst}
use Rattle.hg_base.specs.declared.graph.PlacedEdge.{PlacedEdge}
use Rattle.border_climb.specs.Parts.{IsLot}
use Rattle.tile_plan.specs.Plan.{lot_edges}
use Rattle.merge_board.proofs.Joins.{opened, lot_fits, built_fits}
use Rattle.merge_board.proofs.serving.built.Goals as goal

pub build_tile-requires-clause-no_lots : goal.build_tile-requires-clause-no_lots
build_tile-requires-clause-no_lots c = (opened c.args.plan.now c.args.tile c.args.part c.requires.opened).lots

pub build_tile-requires-clause-no_edges : goal.build_tile-requires-clause-no_edges
build_tile-requires-clause-no_edges c = (opened c.args.plan.now c.args.tile c.args.part c.requires.opened).stands

pub build_tile-requires-clause-lot : goal.build_tile-requires-clause-lot
build_tile-requires-clause-lot c =
    subst (λ (l : List PlacedEdge). IsLot c.args.part.region l) (sym c.lot.ensures.value) (lot_fits c.args.plan.now c.args.tile c.args.part c.keeps_its_rules.ensures.plan c.requires.tile c.requires.opened)

pub returns-clause-fits : goal.returns-clause-fits
returns-clause-fits c =
    built_fits c.args.plan.now c.args.tile c.args.part c.build_tile.result c.keeps_its_rules.ensures.plan c.requires.tile c.requires.opened (c.build_tile.ensures.stands (lot_edges c.args.plan.now c.args.tile) (sym c.lot.ensures.value)) c.build_tile.ensures.lots
    c.build_tile.ensures.range.first c.build_tile.ensures.range.count c.build_tile.ensures.range.chunks c.build_tile.ensures.range.room
