-- The edges at and below the parts of a plan.
use Rattle.std.proofs.Common.{◌≡◌, ℕ, ◌+◌, ◌<◌, ◌≤◌, true, inl, inr, refl, sym, ◌∙◌, subst, ap, arith, List, [], ◌∷◌, ◌++◌}
use Rattle.std.specs.List.{flat_map}
use Rattle.std.proofs.lemmas.List.{append-nil, append_assoc}
use Rattle.edge_laws.specs.Edges.{ListedEdge, EdgeList, AreApart, renamed_edge}
use Rattle.hg_base.specs.Lists.{IsIn}
use Rattle.edge_laws.specs.Rising.{IsRising}
use Rattle.hg_base.proofs.Lists.{IsIn-kept, IsIn-filter, IsIn-append, IsIn-append_back}
use Rattle.edge_laws.proofs.Fronts.{apart-one}
use Rattle.tile_plan.specs.Merges.{MergeTree, Tile, Merge, tiles, merges}
use Rattle.tile_plan.specs.Sites.{SitedPart, left_site, right_site, find, post_order, is_lot_of}
use Rattle.tile_plan.specs.Grids.{grid_tree, root_of, part_in}
use Rattle.tile_plan.specs.declared.site.Site.{Site}
use Rattle.tile_plan.specs.Plan.{TilePlan, IsPlan, IsEdgeAmong, IsPlaceOf, grid_of, tile_count, part, part_count, vertices, home, place_of, first_tile, tiles_of, left, right, post, lot_between_vertices, lot_edges, edges_at}
use Rattle.tile_plan.specs.Laws.{JoinsHalves, Crosses, HasEdges}
use Rattle.tile_plan.proofs.Cuts.{tiles-some}
use Rattle.tile_plan.proofs.Parts.{Has, Has-number, found, Within, own, post-has, halves-apart, Has-within, Within-left, Within-right}
use Rattle.tile_plan.proofs.LotNumbers.{lot-only, lot-found, Parted, lot-inside, tile-within, merge-lot}
use Rattle.tile_plan.proofs.Parents.{HalvesAt, halves-at, plan-tiles, plan-has, has-below, is_part, part-fits}
use Rattle.tile_plan.proofs.Agreeing.{home-below}
use Rattle.tile_plan.proofs.Ranges.{place-covers, places-once, places-below}
use Rattle.tile_plan.proofs.Reading.{IsIn-renamed_back, lot-rising}

-- lots end to end
flat_map-append : (f : ℕ → EdgeList) (xs ys : List ℕ) → flat_map f (xs ++ ys) ≡ flat_map f xs ++ flat_map f ys
flat_map-append f [] ys = refl
flat_map-append f (x ∷ xs) ys = ap (λ (t : EdgeList). f x ++ t) (flat_map-append f xs ys) ∙ sym (append_assoc (f x) (flat_map f xs) (flat_map f ys))

pub IsIn-flat_map : (f : ℕ → EdgeList) (xs : List ℕ) (i : ℕ) (e : ListedEdge) → IsIn i xs → IsIn e (f i) → IsIn e (flat_map f xs)
IsIn-flat_map f [] i e at h = absurd at
IsIn-flat_map f (x ∷ xs) i e (inl same) h = IsIn-append e (f x) (flat_map f xs) (inl (subst (λ (k : ℕ). IsIn e (f k)) (sym same) h))
IsIn-flat_map f (x ∷ xs) i e (inr later) h = IsIn-append e (f x) (flat_map f xs) (inr (IsIn-flat_map f xs i e later h))

IsIn-flat_map_back : (f : ℕ → EdgeList) (xs : List ℕ) (e : ListedEdge) → IsIn e (flat_map f xs) → (i : ℕ) × (IsIn i xs × IsIn e (f i))
IsIn-flat_map_back f [] e h = absurd h
IsIn-flat_map_back f (x ∷ xs) e h =
    elim (IsIn-append_back e (f x) (flat_map f xs) h) [
      | inl here ↦ (x, (inl refl, here))
      | inr later ↦ (let p = IsIn-flat_map_back f xs e later in (p.0, (inr p.1.0, p.1.1)))
    ]

-- two lists without a common rank
AreApart-append : (s t : EdgeList) → AreApart s → AreApart t → ((e f : ListedEdge) → IsIn e s → IsIn f t → e.rank ≡ f.rank → ⊥) → AreApart (s ++ t)
AreApart-append [] t hs ht h = ht
AreApart-append (e ∷ s) t hs ht h = (
  λ f i r. elim (IsIn-append_back f s t i) [ inl l ↦ hs.0 f l r | inr l ↦ h e f (inl refl) l r ],
  AreApart-append s t hs.1 ht (λ f g i j. h f g (inr i) j),
)

-- what rises has different ranks
pub AreApart-rising : (s : EdgeList) → IsRising s → AreApart s
AreApart-rising [] h = tt
AreApart-rising (e ∷ s) h = (λ f i r. (let low : e.rank < f.rank = h.0 f i in omega arith), AreApart-rising s h.1)

-- the parts at and below a merge are those of its halves, then itself
pub joins_halves : (p : TilePlan) (m : ℕ) → IsPlan p → tile_count p ≤ m → m < part_count p → JoinsHalves p m
unfolding edges_at
joins_halves p m h low high =
    let v = halves-at p m h low high in
    let a = v.at in
    let n : ℕ = tile_count p in
    let l : post p (left p m) ≡ post_order n a.x (left_site n a.x a.y a.s) = ap (λ (z : SitedPart). post_order n z.tree z.site) v.left_part in
    let r : post p (right p m) ≡ post_order n a.y (right_site n a.x a.y a.s) = ap (λ (z : SitedPart). post_order n z.tree z.site) v.right_part in
    let list : post p m ≡ (post p (left p m) ++ post p (right p m)) ++ m ∷ [] =
    ap (λ (z : SitedPart). post_order n z.tree z.site) a.is ∙ rw (l, r, v.own_is) refl in
    record {
      parts = list;
      edges = ap (flat_map (lot_edges p)) list
          ∙ flat_map-append (lot_edges p) (post p (left p m) ++ post p (right p m)) (m ∷ [])
          ∙ ap (λ (t : EdgeList). t ++ (lot_edges p m ++ [])) (flat_map-append (lot_edges p) (post p (left p m)) (post p (right p m)))
          ∙ ap (λ (t : EdgeList). (flat_map (lot_edges p) (post p (left p m)) ++ flat_map (lot_edges p) (post p (right p m))) ++ t) (append-nil (lot_edges p m));
    }

-- an edge of a lot is an edge of the plan, between the places of its ends, and passes the lot's test
pub record IsLotEdge (p : TilePlan) (i : ℕ) (e : ListedEdge) : Type 0 where
  pub edge : ListedEdge
  pub is : renamed_edge (place_of p) edge ≡ e
  pub member : IsIn edge p.edges
  pub lot : is_lot_of (part p i).tree (part p i).site (home p edge.u) (home p edge.v) ≡ true

pub lot-edge : (p : TilePlan) (i : ℕ) (e : ListedEdge) → IsIn e (lot_edges p i) → IsLotEdge p i e
unfolding lot_edges lot_between_vertices
lot-edge p i e h =
    let b = IsIn-renamed_back (place_of p) (lot_between_vertices p i) e h in
    let k = IsIn-kept (λ x. is_lot_of (part p i).tree (part p i).site (home p x.u) (home p x.v)) b.0 p.edges b.1.0 in
    record { edge = b.0; is = b.1.1; member = k.1; lot = k.0 }

-- the part whose lot an edge is in
pub lot-of-edge : (p : TilePlan) (e : ListedEdge) → IsPlan p → IsIn e p.edges → (i : ℕ) × ((i < part_count p) × IsIn e (lot_between_vertices p i))
unfolding lot_between_vertices part part_in
lot-of-edge p e h i =
    let count = plan-tiles p h in
    let n : ℕ = tile_count p in
    let t : MergeTree = grid_tree (grid_of p) in
    let ends = h.edges e i in
    let a = home-below p.frame e.u h.frame ends.u in
    let b = home-below p.frame e.v h.frame ends.v in
    let found = lot-found n t (root_of n) (home p e.u) (home p e.v) (omega (arith, count)) (record { low = omega arith; high = omega (arith, count, a) }) (record { low = omega arith; high = omega (arith, count, b) }) in
    (_, (has-below p _ h found.has, IsIn-filter (λ x. is_lot_of (find n t (root_of n) _).tree (find n t (root_of n) _).site (home p x.u) (home p x.v)) e p.edges found.lot i))

-- a lot's part is the only one
pub lot-once : (p : TilePlan) (i j : ℕ) (x y : ℕ) → IsPlan p → i < part_count p → j < part_count p → is_lot_of (part p i).tree (part p i).site x y ≡ true → is_lot_of (part p j).tree (part p j).site x y ≡ true → i ≡ j
unfolding part part_in
lot-once p i j x y h li lj a b =
    let count = plan-tiles p h in
    let n : ℕ = tile_count p in
    lot-only n (grid_tree (grid_of p)) (root_of n) i x y (omega (arith, count)) (omega (arith, count)) (plan-has p i h li) a
    ∙ sym (lot-only n (grid_tree (grid_of p)) (root_of n) j x y (omega (arith, count)) (omega (arith, count)) (plan-has p j h lj) b)

pub ranks-once : (p : TilePlan) (i j : ℕ) (e f : ListedEdge) → IsPlan p → i < part_count p → j < part_count p → IsIn e (lot_edges p i) → IsIn f (lot_edges p j) → e.rank ≡ f.rank → i ≡ j
ranks-once p i j e f h li lj a b same =
    let x = lot-edge p i e a in
    let y = lot-edge p j f b in
    let rx : x.edge.rank ≡ e.rank = ap (λ (z : ListedEdge). z.rank) x.is in
    let ry : y.edge.rank ≡ f.rank = ap (λ (z : ListedEdge). z.rank) y.is in
    let one : x.edge ≡ y.edge = apart-one p.edges (AreApart-rising p.edges h.rising) x.edge y.edge x.member y.member (rx ∙ same ∙ sym ry) in
    lot-once p i j (home p y.edge.u) (home p y.edge.v) h li lj (subst (λ (z : ListedEdge). is_lot_of (part p i).tree (part p i).site (home p z.u) (home p z.v) ≡ true) one x.lot) y.lot

-- a vertex whose tile is a part's has a place of the part
at-place : (p : TilePlan) (i v : ℕ) → v < vertices p → first_tile p i ≤ home p v → home p v < first_tile p i + tiles_of p i → IsPlaceOf p i (place_of p v)
at-place p i v l low high = (place-covers p v (first_tile p i) (first_tile p i + tiles_of p i) l).1 (low, high)

-- a border edge has one end in each half
parted-places : (p : TilePlan) (m : ℕ) (v : HalvesAt p m) (a b : ℕ) → a < vertices p → b < vertices p → Parted v.at.x v.at.y v.at.s (home p a) (home p b)
    → IsPlaceOf p (left p m) (place_of p a) × IsPlaceOf p (right p m) (place_of p b)
parted-places p m v a b la lb h =
    let lf : first_tile p (left p m) ≡ v.at.s.first_tile = ap (λ (z : SitedPart). z.site.first_tile) v.left_part in
    let lt : tiles_of p (left p m) ≡ tiles v.at.x = ap (λ (z : SitedPart). tiles z.tree) v.left_part in
    let rf : first_tile p (right p m) ≡ v.at.s.first_tile + tiles v.at.x = ap (λ (z : SitedPart). z.site.first_tile) v.right_part in
    let rt : tiles_of p (right p m) ≡ tiles v.at.y = ap (λ (z : SitedPart). tiles z.tree) v.right_part in
    let first = h.first in
    let al = first.low in let ah = first.high in let bl = h.low in let bh = h.high in
    (at-place p (left p m) a la (omega (arith, lf, al)) (omega (arith, lf, lt, ah)), at-place p (right p m) b lb (omega (arith, rf, bl)) (omega (arith, rf, rt, bh)))

pub crosses : (p : TilePlan) (m : ℕ) (e : ListedEdge) → IsPlan p → tile_count p ≤ m → m < part_count p → IsIn e (lot_edges p m) → Crosses p m e
crosses p m e h low high i =
    let x = lot-edge p m e i in
    let v = halves-at p m h low high in
    let lot = subst (λ (z : SitedPart). is_lot_of z.tree z.site (home p x.edge.u) (home p x.edge.v) ≡ true) v.at.is x.lot in
    let ends = h.edges x.edge x.member in
    subst (Crosses p m) x.is (elim (merge-lot v.at.by v.at.k v.at.x v.at.y v.at.s (home p x.edge.u) (home p x.edge.v) lot) [
      | inl h1 ↦ inl (parted-places p m v x.edge.u x.edge.v ends.u ends.v h1)
      | inr h2 ↦ inr (parted-places p m v x.edge.v x.edge.u ends.v ends.u h2)
    ])

-- a part in the post-order of another lies inside of it
below-within : (p : TilePlan) (i j : ℕ) → IsPlan p → i < part_count p → Has (tile_count p) (part p i).tree (part p i).site j → Within (part p i).tree (part p i).site (part p j).tree (part p j).site
unfolding part part_in
below-within p i j h l has =
    let f = is_part p i h l in
    let q = part p i in
    let fits = part-fits p i q h f in
    let g = found (tile_count p) q.tree q.site j fits f.roomy has in
    subst (λ (z : SitedPart). Within q.tree q.site z.tree z.site) (sym (f.through j has)) g.within

-- an edge at and below a part is in the lot of a part there
pub record IsBelow (p : TilePlan) (i : ℕ) (e : ListedEdge) : Type 0 where
  pub at : ℕ
  pub has : Has (tile_count p) (part p i).tree (part p i).site at
  pub lot : IsIn e (lot_edges p at)

pub edge-below : (p : TilePlan) (i : ℕ) (e : ListedEdge) → IsPlan p → i < part_count p → IsIn e (edges_at p i) → IsBelow p i e
unfolding edges_at
edge-below p i e h l k =
    let b = IsIn-flat_map_back (lot_edges p) (post p i) e k in
    let f = is_part p i h l in
    record { at = b.0; has = post-has (tile_count p) (part p i).tree (part p i).site b.0 (part-fits p i (part p i) h f) b.1.0; lot = b.1.1 }

-- both its ends are places of the part
ends-below : (p : TilePlan) (i : ℕ) (e : ListedEdge) → IsPlan p → i < part_count p → IsIn e (edges_at p i) → IsPlaceOf p i e.u × IsPlaceOf p i e.v
ends-below p i e h l k =
    let b = edge-below p i e h l k in
    let x = lot-edge p b.at e b.lot in
    let w = below-within p i b.at h l b.has in
    let inside = lot-inside (part p b.at).tree (part p b.at).site (home p x.edge.u) (home p x.edge.v) x.lot in
    let tu = tile-within (part p i).tree (part p i).site (part p b.at).tree (part p b.at).site (home p x.edge.u) w inside.0 in
    let tv = tile-within (part p i).tree (part p i).site (part p b.at).tree (part p b.at).site (home p x.edge.v) w inside.1 in
    let ends = h.edges x.edge x.member in
    subst (λ (z : ListedEdge). IsPlaceOf p i z.u × IsPlaceOf p i z.v) x.is (at-place p i x.edge.u ends.u tu.low tu.high, at-place p i x.edge.v ends.v tv.low tv.high)

among-below : (p : TilePlan) (i : ℕ) (e : ListedEdge) → IsPlan p → i < part_count p → IsIn e (edges_at p i) → IsEdgeAmong (vertices p) e
among-below p i e h l k =
    let b = edge-below p i e h l k in
    let x = lot-edge p b.at e b.lot in
    let ends = h.edges x.edge x.member in
    subst (IsEdgeAmong (vertices p)) x.is (record {
      u = places-below p x.edge.u h ends.u;
      v = places-below p x.edge.v h ends.v;
      apart = λ same. ends.apart (places-once p h x.edge.u x.edge.v ends.u ends.v same);
      rank = ends.rank;
    })

-- the edges of the lots of a post-order have different ranks
apart-posts : (p : TilePlan) (t : MergeTree) (s : Site) → IsPlan p → s.first_tile + tiles t ≤ tile_count p → ((j : ℕ) → Has (tile_count p) t s j → j < part_count p) → AreApart (flat_map (lot_edges p) (post_order (tile_count p) t s))
apart-posts p Tile s h fits below = subst AreApart (sym (append-nil (lot_edges p s.first_tile))) (AreApart-rising (lot_edges p s.first_tile) (lot-rising p s.first_tile h))
apart-posts p (Merge by k x y) s h fits below =
    let n : ℕ = tile_count p in
    let my = tiles-some y in
    let xs = post_order n x (left_site n x y s) in
    let ys = post_order n y (right_site n x y s) in
    let lf = λ (j : ℕ) (g : Has n x (left_site n x y s) j). below j (Has-within n (Merge by k x y) s x (left_site n x y s) j (Within-left n by k x y s) g) in
    let rf = λ (j : ℕ) (g : Has n y (right_site n x y s) j). below j (Has-within n (Merge by k x y) s y (right_site n x y s) j (Within-right n by k x y s) g) in
    let last = below (own n x y s) (Has-number n (Merge by k x y) s fits) in
    subst AreApart (sym (flat_map-append (lot_edges p) (xs ++ ys) (own n x y s ∷ [])))
    (AreApart-append (flat_map (lot_edges p) (xs ++ ys)) (lot_edges p (own n x y s) ++ [])
    (subst AreApart (sym (flat_map-append (lot_edges p) xs ys))
    (AreApart-append (flat_map (lot_edges p) xs) (flat_map (lot_edges p) ys)
    (apart-posts p x (left_site n x y s) h (omega arith) lf) (apart-posts p y (right_site n x y s) h (omega arith) rf)
    (λ e f ie jf same. (let a = IsIn-flat_map_back (lot_edges p) xs e ie in let b = IsIn-flat_map_back (lot_edges p) ys f jf in
    let ha = post-has n x (left_site n x y s) a.0 (omega arith) a.1.0 in
    let hb = post-has n y (right_site n x y s) b.0 (omega arith) b.1.0 in
    let one = ranks-once p a.0 b.0 e f h (lf a.0 ha) (rf b.0 hb) a.1.1 b.1.1 same in
    halves-apart n x y s b.0 (subst (Has n x (left_site n x y s)) one ha) hb))))
    (subst AreApart (sym (append-nil (lot_edges p (own n x y s)))) (AreApart-rising (lot_edges p (own n x y s)) (lot-rising p (own n x y s) h)))
    (λ e f ie jf same. (let a = IsIn-flat_map_back (lot_edges p) (xs ++ ys) e ie in
    let jf' = subst (IsIn f) (append-nil (lot_edges p (own n x y s))) jf in
    elim (IsIn-append_back a.0 xs ys a.1.0) [
      | inl l ↦ (let ha = post-has n x (left_site n x y s) a.0 (omega arith) l in
          let one : a.0 ≡ own n x y s = ranks-once p a.0 (own n x y s) e f h (lf a.0 ha) last a.1.1 jf' same in
          let high = ha.merge_high (omega (arith, one)) in omega (arith, one, high))
      | inr r ↦ (let ha = post-has n y (right_site n x y s) a.0 (omega arith) r in
          let one : a.0 ≡ own n x y s = ranks-once p a.0 (own n x y s) e f h (rf a.0 ha) last a.1.1 jf' same in
          let high : a.0 < n + (s.first_merge + merges x) + merges y = ha.merge_high (omega (arith, one)) in omega (arith, one, high))
    ])))

-- the parts at and below a part are parts of the plan
below-count : (p : TilePlan) (i j : ℕ) → IsPlan p → i < part_count p → Has (tile_count p) (part p i).tree (part p i).site j → j < part_count p
below-count p i j h l has =
    let f = is_part p i h l in
    has-below p j h (Has-within (tile_count p) (grid_tree (grid_of p)) (root_of (tile_count p)) (part p i).tree (part p i).site j f.within has)

pub has_edges : (p : TilePlan) (i : ℕ) → IsPlan p → i < part_count p → HasEdges p i
unfolding edges_at
has_edges p i h l =
    let f = is_part p i h l in
    record {
      apart = apart-posts p (part p i).tree (part p i).site h (part-fits p i (part p i) h f) (λ j has. below-count p i j h l has);
      rising = lot-rising p i h;
      first_ends = λ e k. (ends-below p i e h l k).0;
      second_ends = λ e k. (ends-below p i e h l k).1;
      among = λ e k. among-below p i e h l k;
    }
