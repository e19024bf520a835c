-- The edges at and below the root are all edges of the plan.
use Rattle.std.proofs.Common.{◌≡◌, ℕ, ◌+◌, ◌<◌, cond, Bool, true, false, refl, sym, ◌∙◌, subst, ap, arith, [], ◌∷◌, length}
use Rattle.std.specs.Prelude.{nat_lt}
use Rattle.std.proofs.lemmas.List.{length-map}
use Rattle.edge_laws.specs.Edges.{ListedEdge, EdgeList, AreApart, AreWithin, IsSameSet, in_order, placed_by_rank, joins, chain, renamed, renamed_edge}
use Rattle.hg_base.specs.Lists.{IsIn}
use Rattle.edge_laws.proofs.Sets.{in_order-same, joins-same, chain-same}
use Rattle.edge_laws.proofs.Renaming.{joins-renamed, chain-renamed}
use Rattle.tile_plan.specs.Sites.{SitedPart, post_order}
use Rattle.tile_plan.specs.Grids.{grid_tree, root_of}
use Rattle.tile_plan.specs.Plan.{TilePlan, IsPlan, grid_of, tile_count, part_count, root, vertices, place_of, post, lot_between_vertices, lot_edges, edges_at}
use Rattle.tile_plan.proofs.Parts.{has-post}
use Rattle.tile_plan.proofs.Parents.{plan-has, root-part}
use Rattle.tile_plan.proofs.Ranges.{places-once}
use Rattle.tile_plan.proofs.Reading.{IsIn-renamed, IsIn-renamed_back, some-tile}
use Rattle.tile_plan.proofs.Edges.{IsIn-flat_map, AreApart-rising, lot-edge, lot-of-edge, edge-below, has_edges}

-- sorting keeps the length
length-placed : (e : ListedEdge) (s : EdgeList) → length (placed_by_rank e s) ≡ length s + 1
length-placed e [] = refl
length-placed e (f ∷ s) = by_test (nat_lt e.rank f.rank) (length-placed e s)
  where
    by_test : (b : Bool) → length (placed_by_rank e s) ≡ length s + 1 → length (cond b (e ∷ f ∷ s) (f ∷ placed_by_rank e s)) ≡ length (f ∷ s) + 1
    by_test true h = omega arith
    by_test false h = omega (arith, h)

length-in_order : (s : EdgeList) → length (in_order s) ≡ length s
length-in_order [] = refl
length-in_order (e ∷ s) = let rest = length-in_order s in let here = length-placed e (in_order s) in omega (arith, rest, here)

-- edges under other names have the same ranks
AreApart-renamed : (f : ℕ → ℕ) (s : EdgeList) → AreApart s → AreApart (renamed f s)
AreApart-renamed f [] h = tt
AreApart-renamed f (e ∷ s) h = (λ g i r. (let p = IsIn-renamed_back f s g i in h.0 p.0 p.1.0 (r ∙ sym (ap (λ (x : ListedEdge). x.rank) p.1.1))), AreApart-renamed f s h.1)

root-below : (p : TilePlan) → IsPlan p → root p < part_count p
root-below p h = let some = some-tile p h in omega (arith, some)

pub apart-edges : (p : TilePlan) → IsPlan p → AreApart (renamed (place_of p) p.edges)
apart-edges p h = AreApart-renamed (place_of p) p.edges (AreApart-rising p.edges h.rising)

-- an edge of the plan is in a lot below the root
edge-there : (p : TilePlan) (x : ListedEdge) → IsPlan p → IsIn x p.edges → IsIn (renamed_edge (place_of p) x) (edges_at p (root p))
unfolding edges_at lot_edges
edge-there p x h i =
    let at = lot-of-edge p x h i in
    let listed = subst (λ (q : SitedPart). IsIn at.0 (post_order (tile_count p) q.tree q.site)) (sym (root-part p h)) (has-post (tile_count p) (grid_tree (grid_of p)) (root_of (tile_count p)) at.0 (plan-has p at.0 h at.1.0)) in
    IsIn-flat_map (lot_edges p) (post p (root p)) at.0 (renamed_edge (place_of p) x) listed (IsIn-renamed (place_of p) (lot_between_vertices p at.0) x at.1.1)

pub root-all : (p : TilePlan) → IsPlan p → IsSameSet (edges_at p (root p)) (renamed (place_of p) p.edges)
root-all p h = record {
  on = λ e i. (let b = edge-below p (root p) e h (root-below p h) i in let x = lot-edge p b.at e b.lot in
      subst (λ (z : ListedEdge). IsIn z (renamed (place_of p) p.edges)) x.is (IsIn-renamed (place_of p) p.edges x.edge x.member));
  back = λ e i. (let b = IsIn-renamed_back (place_of p) p.edges e i in subst (λ (z : ListedEdge). IsIn z (edges_at p (root p))) b.1.1 (edge-there p b.0 h b.1.0));
}

root-apart : (p : TilePlan) → IsPlan p → AreApart (edges_at p (root p))
root-apart p h = (has_edges p (root p) h (root-below p h)).apart

pub within-edges : (p : TilePlan) → IsPlan p → AreWithin (vertices p) p.edges
within-edges p h e i = let ends = h.edges e i in (ends.u, ends.v)

pub root-count : (p : TilePlan) → IsPlan p → length (edges_at p (root p)) ≡ length p.edges
root-count p h =
    sym (length-in_order (edges_at p (root p)))
    ∙ ap length (in_order-same (edges_at p (root p)) (renamed (place_of p) p.edges) (root-apart p h) (apart-edges p h) (root-all p h))
    ∙ length-in_order (renamed (place_of p) p.edges)
    ∙ length-map p.edges (renamed_edge (place_of p))

pub root-joins : (p : TilePlan) → IsPlan p → joins (edges_at p (root p)) ≡ renamed (place_of p) (joins p.edges)
root-joins p h =
    joins-same (edges_at p (root p)) (renamed (place_of p) p.edges) (root-apart p h) (apart-edges p h) (root-all p h)
    ∙ joins-renamed (vertices p) (place_of p) (places-once p h) p.edges (within-edges p h)

pub root-chain : (p : TilePlan) (v : ℕ) → IsPlan p → v < vertices p → chain (edges_at p (root p)) (place_of p v) ≡ renamed (place_of p) (chain p.edges v)
root-chain p v h l =
    chain-same (edges_at p (root p)) (renamed (place_of p) p.edges) (place_of p v) (root-apart p h) (apart-edges p h) (root-all p h)
    ∙ chain-renamed (vertices p) (place_of p) (places-once p h) p.edges (within-edges p h) v l
