use Rattle.std.proofs.Common.{rules, ◌≡◌, length, ap, subst, ◌∙◌}
use Rattle.tile_plan.specs.Plan.{TilePlan, IsPlan, root, tile_count}
use Rattle.tile_plan.proofs.RootEdges.{root-count}
use Rattle.merge_board.proofs.Joins.{fitting}
use Rattle.merge_board.proofs.board.Board.close.Goals as goal

pub returns-clause-stands : goal.returns-clause-stands
returns-clause-stands c = (fitting c.args.self.plan (root c.args.self.plan) c.root_part-part.result c.root_part-part.ensures).stands

pub returns-clause-lots : goal.returns-clause-lots
returns-clause-lots c = (fitting c.args.self.plan (root c.args.self.plan) c.root_part-part.result c.root_part-part.ensures).lots

pub returns-clause-given : goal.returns-clause-given
returns-clause-given c =
    let plan : IsPlan c.args.self.plan = subst (λ (q : TilePlan). IsPlan q) c.requires.plan c.tiles-tiles.ensures.plan in
    (fitting c.args.self.plan (root c.args.self.plan) c.root_part-part.result c.root_part-part.ensures).stands.given ∙ root-count c.args.self.plan plan

pub returns-clause-receipt : goal.returns-clause-receipt
returns-clause-receipt c =
    let tiles : c.tiles-tiles.result ≡ tile_count c.args.self.plan = c.tiles-tiles.ensures.value ∙ ap (λ (q : TilePlan). tile_count q) c.requires.plan in
    let workers : c.self.inside.workers ≡ c.args.self.workers = search rules in
    let edges : c.given-edges.result ≡ length c.args.self.plan.edges = c.given-edges.ensures ∙ returns-clause-given c in
    search rules
