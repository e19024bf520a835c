-- What the conditions of building and joining parts ask, from what fits a plan.
use Rattle.std.proofs.Common.{◌≡◌, ◌≢◌, ℕ, ◌+◌, ◌-◌, ◌*◌, ◌<◌, ◌≤◌, ◌⊎◌, inl, inr, refl, sym, ◌∙◌, subst, ap, arith, List, [], ◌∷◌, ◌++◌, length, map}
use Rattle.edge_laws.specs.Edges.{ListedEdge, EdgeList, AreApart}
use Rattle.hg_base.specs.Lists.{IsIn}
use Rattle.edge_laws.specs.Placed.{placed}
use Rattle.node_region.specs.Pool.{count, IsCovered, IsNextTo}
use Rattle.border_climb.specs.Stands.{PartState, Stands}
use Rattle.border_climb.specs.Parts.{IsLot, CanJoin, as_listed}
use Rattle.hg_base.specs.declared.graph.PlacedEdge.{PlacedEdge}
use Rattle.tile_plan.specs.Plan.{TilePlan, IsPlan, IsPlaceOf, tile_count, part_count, left, right, first_place, end_place, first_tile, tiles_of, lot_edges, edges_at, room_tiles, start, part}
use Rattle.tile_plan.specs.Laws.{HasHalves, JoinsHalves, IsSomewhere, IsTile, HasEdges, Crosses}
use Rattle.tile_plan.proofs.Parents.{has_halves}
use Rattle.tile_plan.proofs.Ranges.{is_somewhere, is_tile, start-rises}
use Rattle.tile_plan.proofs.Edges.{joins_halves, crosses, has_edges}
use Rattle.hg_base.specs.declared.graph.Room.{Room}
use Rattle.hg_base.proofs.Lists.{IsIn-append, IsIn-append_back}
use Rattle.std.proofs.lemmas.List.{length-append}
use Rattle.tile_plan.specs.Merges.{MergeTree, Tile, Merge, tiles, merges}
use Rattle.tile_plan.specs.Sites.{post_order, left_site, right_site}
use Rattle.tile_plan.specs.declared.site.Site.{Site}
use Rattle.tile_plan.proofs.Cuts.{tiles-merges}
use Rattle.merge_board.specs.Fits.{Fits, Opened, IsFitting, IsOpened, IsShapedFor}

-- the two definitions, opened
pub fitting : (p : TilePlan) (i : ℕ) (part : PartState) → Fits p i part → IsFitting p i part
unfolding Fits
fitting p i part h = h

pub fits : (p : TilePlan) (i : ℕ) (part : PartState) → IsFitting p i part → Fits p i part
unfolding Fits
fits p i part h = h

pub opened : (p : TilePlan) (i : ℕ) (part : PartState) → Opened p i part → IsOpened p i part
unfolding Opened
opened p i part h = h

pub opens : (p : TilePlan) (i : ℕ) (part : PartState) → IsOpened p i part → Opened p i part
unfolding Opened
opens p i part h = h

-- a place of part i is one that the part covers
pub covers : (p : TilePlan) (i : ℕ) (part : PartState) (x : ℕ) → IsShapedFor p i part → IsPlaceOf p i x → IsCovered part.region x
covers p i part x s h = let a = s.first in let b = s.places in let c = h.0 in let d = h.1 in (omega arith, omega arith)

-- an edge of a list of placed edges is the picture of one
pub in_placed : (s : EdgeList) (e : PlacedEdge) → IsIn e (map placed s) → (f : ListedEdge) × (IsIn f s × (placed f ≡ e))
in_placed [] e h = absurd h
in_placed (f ∷ s) e (inl same) = (f, (inl refl, same))
in_placed (f ∷ s) e (inr later) = let r = in_placed s e later in (r.0, (inr r.1.0, r.1.1))

-- placed edges have the ranks of those that they are pictures of
in_listed : (b : EdgeList) (f : ListedEdge) → IsIn f (map as_listed (map placed b)) → (g : ListedEdge) × (IsIn g b × (g.rank ≡ f.rank))
in_listed [] f h = absurd h
in_listed (e ∷ b) f (inl same) = (e, (inl refl, ap (λ (x : ListedEdge). x.rank) same))
in_listed (e ∷ b) f (inr later) = let r = in_listed b f later in (r.0, (inr r.1.0, r.1.1))

apart_listed : (b : EdgeList) → AreApart b → AreApart (map as_listed (map placed b))
apart_listed [] a = tt
apart_listed (e ∷ b) a = ((λ f h same. (let g = in_listed b f h in a.0 g.0 g.1.0 (same ∙ sym g.1.1))), apart_listed b a.1)

apart_after : (x b : EdgeList) → AreApart (x ++ b) → AreApart (x ++ map as_listed (map placed b))
apart_after [] b a = apart_listed b a
apart_after (e ∷ x) b a = ((λ f h same. by f same (IsIn-append_back f x (map as_listed (map placed b)) h)), apart_after x b a.1)
  where
    by : (f : ListedEdge) → e.rank ≡ f.rank → IsIn f x ⊎ IsIn f (map as_listed (map placed b)) → ⊥
    by f same (inl i) = a.0 f (IsIn-append f x b (inl i)) same
    by f same (inr j) = let g = in_listed b f j in a.0 g.0 (IsIn-append g.0 x b (inr g.1.0)) (same ∙ sym g.1.1)

-- the lot of a tile is one that its opened part can be built from
pub lot_fits : (p : TilePlan) (t : ℕ) (part : PartState) → IsPlan p → t < tile_count p → Opened p t part → IsLot part.region (map placed (lot_edges p t))
lot_fits p t part h low o = record {
  a = λ e at. (let f = in_placed (lot_edges p t) e at in subst (λ (q : PlacedEdge). IsCovered part.region q.a) f.1.1 (covers p t part f.0.u (opened p t part o).shape (edges.first_ends f.0 (in_all f.0 f.1.0))));
  b = λ e at. (let f = in_placed (lot_edges p t) e at in subst (λ (q : PlacedEdge). IsCovered part.region q.b) f.1.1 (covers p t part f.0.v (opened p t part o).shape (edges.second_ends f.0 (in_all f.0 f.1.0))));
  two = λ e at. (let f = in_placed (lot_edges p t) e at in subst (λ (q : PlacedEdge). q.a ≢ q.b) f.1.1 (edges.among f.0 (in_all f.0 f.1.0)).apart);
  apart = apart_listed (lot_edges p t) (subst (λ (s : EdgeList). AreApart s) tile.edges edges.apart);
}
  where
    edges : HasEdges p t
    edges = has_edges p t h (omega arith)

    tile : IsTile p t
    tile = is_tile p t h low

    in_all : (e : ListedEdge) → IsIn e (lot_edges p t) → IsIn e (edges_at p t)
    in_all e at = subst (λ (s : EdgeList). IsIn e s) (sym tile.edges) at

-- what was built from a tile's opened part and its lot fits the tile
pub built_fits : (p : TilePlan) (t : ℕ) (part made : PartState) → IsPlan p → t < tile_count p → Opened p t part → Stands made (lot_edges p t) → made.lots ≡ t ∷ []
    → made.region.first ≡ part.region.first → count made.region ≡ count part.region → made.region.chunks ≡ part.region.chunks → made.region.room ≡ part.region.room → Fits p t made
built_fits p t part made h low o stands lots first places chunks room = fits p t made (record {
  shape = record { first = first ∙ o'.shape.first; places = places ∙ o'.shape.places; chunks = chunks ∙ o'.shape.chunks; room = room ∙ o'.shape.room };
  lots = lots ∙ sym tile.post;
  stands = subst (λ (s : EdgeList). Stands made s) (sym tile.edges) stands;
})
  where
    o' : IsOpened p t part
    o' = opened p t part o

    tile : IsTile p t
    tile = is_tile p t h low

module _ (p : TilePlan) (m : ℕ) (a b : PartState) (plan : IsPlan p) (low : tile_count p ≤ m) (high : m < part_count p) (left_fits : Fits p (left p m) a) (right_fits : Fits p (right p m) b) where
  halves : HasHalves p m
  halves = has_halves p m plan low high

  fa : IsFitting p (left p m) a
  fa = fitting p (left p m) a left_fits

  fb : IsFitting p (right p m) b
  fb = fitting p (right p m) b right_fits

  joins : JoinsHalves p m
  joins = joins_halves p m plan low high

  edges : HasEdges p m
  edges = has_edges p m plan high

  -- the border of a merge is one that the two halves can be joined by
  pub border_fits : CanJoin a b (map placed (lot_edges p m)) (edges_at p (left p m)) (edges_at p (right p m))
  border_fits = record {
    left_stands = fa.stands;
    right_stands = fb.stands;
    crosses = λ e at. (let f = in_placed (lot_edges p m) e at in subst (λ (q : PlacedEdge). (IsCovered a.region q.a × IsCovered b.region q.b) ⊎ (IsCovered a.region q.b × IsCovered b.region q.a)) f.1.1 (cross f.0 (crosses p m f.0 plan low high f.1.0)));
    apart = apart_after (edges_at p (left p m) ++ edges_at p (right p m)) (lot_edges p m) (subst (λ (s : EdgeList). AreApart s) joins.edges edges.apart);
  }
    where
      cross : (e : ListedEdge) → Crosses p m e → (IsCovered a.region e.u × IsCovered b.region e.v) ⊎ (IsCovered a.region e.v × IsCovered b.region e.u)
      cross e (inl t) = inl (covers p (left p m) a e.u fa.shape t.0, covers p (right p m) b e.v fb.shape t.1)
      cross e (inr t) = inr (covers p (left p m) a e.v fa.shape t.0, covers p (right p m) b e.u fb.shape t.1)

  left_is : IsSomewhere p (left p m)
  left_is = is_somewhere p (left p m) plan (let b = halves.left_half.below in omega arith)

  right_is : IsSomewhere p (right p m)
  right_is = is_somewhere p (right p m) plan (let b = halves.right_half.below in omega arith)

  merge_is : IsSomewhere p m
  merge_is = is_somewhere p m plan high

  both_places : count a.region + count b.region ≡ end_place p m - first_place p m
  both_places = let ca = fa.shape.places in let cb = fb.shape.places in let l = left_is.some_place in let r = right_is.some_place in let x = halves.places.left_first in let y = halves.places.right_first in let z = halves.places.right_end in omega (arith, ca, cb, l, r, x, y, z)

  joined_places : (made : PartState) → count made.region ≡ count a.region + count b.region → count made.region ≡ end_place p m - first_place p m
  joined_places made e = e ∙ both_places

  -- the second half begins where the first ends, and the room of the first holds both
  pub halves_next : IsNextTo a.region b.region
  halves_next = record {
    next = (let x = fb.shape.first in let y = halves.places.right_first in let f = fa.shape.first in let g = fa.shape.places in let l = left_is.some_place in omega (arith, x, y, f, g, l));
    places = subst (λ (r : ℕ). count a.region + count b.region ≤ r) (sym (ap (λ (r : Room). r.places) room_is)) (let e = both_places in let l = start-rises p (first_tile p m + tiles_of p m) (first_tile p m + room_tiles p (first_tile p m)) (let q = merge_is.room in omega arith) in omega (arith, e, l));
    chunks = subst (λ (r : ℕ). a.region.chunks + b.region.chunks ≤ r) (sym (ap (λ (r : Room). r.chunks) room_is)) (let ca = fa.shape.chunks in let cb = fb.shape.chunks in let t = halves.tiles.sum in let q = merge_is.room in omega (arith, ca, cb, t, q));
  }
    where
      room_is : a.region.room ≡ record { places = start p (first_tile p m + room_tiles p (first_tile p m)) - start p (first_tile p m); chunks = room_tiles p (first_tile p m) }
      room_is = fa.shape.room ∙ ap (λ (t : ℕ). record { places = start p (t + room_tiles p t) - start p t; chunks = room_tiles p t }) halves.tiles.left_first

  -- what was joined fits the merge
  pub joined_fits : (made : PartState) → Stands made ((edges_at p (left p m) ++ edges_at p (right p m)) ++ lot_edges p m) → made.lots ≡ (a.lots ++ b.lots) ++ m ∷ [] → made.region.first ≡ a.region.first
      → count made.region ≡ count a.region + count b.region → made.region.chunks ≡ a.region.chunks + b.region.chunks → made.region.room ≡ a.region.room → Fits p m made
  joined_fits made stands lots first places chunks room = fits p m made (record {
    shape = record {
      first = first ∙ fa.shape.first ∙ halves.places.left_first;
      places = joined_places made places;
      chunks = (let ca = fa.shape.chunks in let cb = fb.shape.chunks in let t = halves.tiles.sum in omega (arith, ca, cb, t, chunks));
      room = room ∙ fa.shape.room ∙ ap (λ (t : ℕ). record { places = start p (t + room_tiles p t) - start p t; chunks = room_tiles p t }) halves.tiles.left_first;
    };
    lots = lots ∙ (λ k. (fa.lots k ++ fb.lots k) ++ m ∷ []) ∙ sym joins.parts;
    stands = subst (λ (s : EdgeList). Stands made s) (sym joins.edges) stands;
  })

-- a part has as many lots as there are parts at and below it
post-length : (n : ℕ) (t : MergeTree) (s : Site) → length (post_order n t s) ≡ tiles t + merges t
post-length n Tile s = refl
post-length n (Merge by k x y) s =
    let a = post-length n x (left_site n x y s) in let b = post-length n y (right_site n x y s) in
    let c = length-append (post_order n x (left_site n x y s) ++ post_order n y (right_site n x y s)) ((n + s.first_merge + merges x + merges y) ∷ []) in
    let d = length-append (post_order n x (left_site n x y s)) (post_order n y (right_site n x y s)) in omega (arith, a, b, c, d)

pub lots_length : (p : TilePlan) (i : ℕ) (made : PartState) → Fits p i made → length made.lots ≡ 2 * made.region.chunks - 1
lots_length p i made f =
    let a = post-length (tile_count p) (part p i).tree (part p i).site in let b = tiles-merges (part p i).tree in let c = (fitting p i made f).shape.chunks in
    let d = ap (λ (l : List ℕ). length l) (fitting p i made f).lots in omega (arith, a, b, c, d)
