-- The part of a board's root covers all places.
use Rattle.std.proofs.Common.{◌≡◌, ◌+◌, ap, ◌∙◌, arith}
use Rattle.border_climb.specs.Stands.{PartState}
use Rattle.merge_board.specs.Fits.{Fits}
use Rattle.merge_board.proofs.Joins.{fitting}
use Rattle.node_region.specs.Pool.{count}
use Rattle.tile_plan.specs.Grids.{grid_tree}
use Rattle.tile_plan.specs.Merges.{tiles}
use Rattle.tile_plan.specs.Plan.{TilePlan, IsPlan, end_place, first_place, grid_of, home, root, start, tile_count, vertices}
use Rattle.tile_plan.specs.Sites.{SitedPart}
use Rattle.tile_plan.proofs.Agreeing.{home-below}
use Rattle.tile_plan.proofs.Counting.{start-all, start-zero}
use Rattle.tile_plan.proofs.Parents.{plan-tiles, root-part}

-- the root begins at the first place
root-first : (p : TilePlan) → IsPlan p → first_place p (root p) ≡ 0
unfolding start
root-first p h = ap (λ (q : SitedPart). start p q.site.first_tile) (root-part p h) ∙ start-zero (home p) (vertices p)

-- and ends after the last one
root-end : (p : TilePlan) → IsPlan p → end_place p (root p) ≡ vertices p
unfolding start
root-end p h =
    let all : 0 + tiles (grid_tree (grid_of p)) ≡ tile_count p = omega (arith, plan-tiles p h) in
    ap (λ (q : SitedPart). start p (q.site.first_tile + tiles q.tree)) (root-part p h)
    ∙ ap (start p) all ∙ start-all (home p) (vertices p) (tile_count p) (λ v l. home-below p.frame v h.frame l)

-- so the part that fits the root does
pub root_starts : (p : TilePlan) (part : PartState) → IsPlan p → Fits p (root p) part → part.region.first ≡ 0
root_starts p part h fits = (fitting p (root p) part fits).shape.first ∙ root-first p h

pub root_covers : (p : TilePlan) (part : PartState) → IsPlan p → Fits p (root p) part → count part.region ≡ vertices p
root_covers p part h fits = let places = (fitting p (root p) part fits).shape.places in let first = root-first p h in let last = root-end p h in omega (arith, places, first, last)
