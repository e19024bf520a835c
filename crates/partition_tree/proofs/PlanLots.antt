-- The lots of a plan are those that parts can take in.
use Rattle.std.proofs.Common.{◌≡◌, ◌≢◌, ℕ, ◌-◌, ◌<◌, ◌≤◌, inl, inr, refl, sym, ◌∙◌, subst, ap, arith, [], ◌∷◌, ◌++◌, map}
use Rattle.edge_laws.specs.Edges.{ListedEdge, EdgeList, AreApart}
use Rattle.hg_base.specs.Lists.{IsIn}
use Rattle.edge_laws.specs.Placed.{placed}
use Rattle.hg_base.specs.declared.graph.PlacedEdge.{PlacedEdge}
use Rattle.node_region.specs.Pool.{CellPool, count, IsCovered}
use Rattle.border_climb.specs.Stands.{PartState, Stands}
use Rattle.border_climb.specs.Parts.{IsLot, CanJoin, as_listed}
use Rattle.border_climb.specs.Parts as parts
use Rattle.tile_plan.specs.Plan.{TilePlan, IsPlan, IsPlaceOf, tile_count, part_count, left, right, first_place, end_place, lot_edges, edges_at}
use Rattle.tile_plan.specs.Laws.{IsTile, HasEdges, Crosses}
use Rattle.tile_plan.proofs.Ranges.{is_tile}
use Rattle.tile_plan.proofs.Edges.{joins_halves, crosses, has_edges}

-- what is in a list between places is a listed edge with less told
placed-back : (s : EdgeList) (x : PlacedEdge) → IsIn x (map placed s) → (e : ListedEdge) × (IsIn e s × (placed e ≡ x))
placed-back [] x i = absurd i
placed-back (e ∷ s) x (inl same) = (e, (inl refl, same))
placed-back (e ∷ s) x (inr later) = let b = placed-back s x later in (b.0, (inr b.1.0, b.1.1))

listed-back : (x s : EdgeList) (f : ListedEdge) → IsIn f (x ++ map as_listed (map placed s)) → (g : ListedEdge) × (IsIn g (x ++ s) × (g.rank ≡ f.rank))
listed-back [] [] f i = absurd i
listed-back [] (e ∷ s) f (inl same) = (e, (inl refl, ap (λ (z : ListedEdge). z.rank) same))
listed-back [] (e ∷ s) f (inr later) = let b = listed-back [] s f later in (b.0, (inr b.1.0, b.1.1))
listed-back (y ∷ x) s f (inl same) = (y, (inl refl, ap (λ (z : ListedEdge). z.rank) same))
listed-back (y ∷ x) s f (inr later) = let b = listed-back x s f later in (b.0, (inr b.1.0, b.1.1))

-- different ranks stay so
apart-listed : (x s : EdgeList) → AreApart (x ++ s) → AreApart (x ++ map as_listed (map placed s))
apart-listed [] [] h = tt
apart-listed [] (e ∷ s) h = (λ f i r. (let b = listed-back [] s f i in h.0 b.0 b.1.0 (r ∙ sym b.1.1)), apart-listed [] s h.1)
apart-listed (y ∷ x) s h = (λ f i r. (let b = listed-back x s f i in h.0 b.0 b.1.0 (r ∙ sym b.1.1)), apart-listed x s h.1)

-- the part covers the range of part i
pub record IsOver (p : TilePlan) (i : ℕ) (pool : CellPool) : Type 0 where
  pub first : pool.first ≡ first_place p i
  pub places : count pool ≡ end_place p i - first_place p i

covers : (p : TilePlan) (i : ℕ) (pool : CellPool) (x : ℕ) → IsOver p i pool → IsPlaceOf p i x → IsCovered pool x
covers p i pool x s h = let a = s.first in let b = s.places in let c = h.0 in let d = h.1 in (omega arith, omega arith)

-- a tile's part can be built from its lot
pub lot-fits : (p : TilePlan) (t : ℕ) (pool : CellPool) → IsPlan p → t < tile_count p → IsOver p t pool → IsLot pool (map placed (lot_edges p t))
lot-fits p t pool h low o = record {
  a = λ x i. (let b = placed-back (lot_edges p t) x i in
      subst (λ (z : PlacedEdge). IsCovered pool z.a) b.1.1 (covers p t pool b.0.u o (edges.first_ends b.0 (in_all b.0 b.1.0))));
  b = λ x i. (let b = placed-back (lot_edges p t) x i in
      subst (λ (z : PlacedEdge). IsCovered pool z.b) b.1.1 (covers p t pool b.0.v o (edges.second_ends b.0 (in_all b.0 b.1.0))));
  two = λ x i. (let b = placed-back (lot_edges p t) x i in
      subst (λ (z : PlacedEdge). z.a ≢ z.b) b.1.1 (edges.among b.0 (in_all b.0 b.1.0)).apart);
  apart = apart-listed [] (lot_edges p t) (subst (λ (s : EdgeList). AreApart s) tile.edges edges.apart);
}
  where
    edges : HasEdges p t
    edges = has_edges p t h (omega arith)

    tile : IsTile p t
    tile = is_tile p t h low

    in_all : (e : ListedEdge) → IsIn e (lot_edges p t) → IsIn e (edges_at p t)
    in_all e i = subst (λ (s : EdgeList). IsIn e s) (sym tile.edges) i

-- and then stands for the tile's edges
pub lot-stands : (p : TilePlan) (t : ℕ) (part : PartState) → IsPlan p → t < tile_count p → Stands part (lot_edges p t) → Stands part (edges_at p t)
lot-stands p t part h low s = subst (λ (l : EdgeList). Stands part l) (sym (is_tile p t h low).edges) s

-- the parts of the halves of a merge can be joined by its lot
pub halves-join : (p : TilePlan) (m : ℕ) (a b : PartState) → IsPlan p → tile_count p ≤ m → m < part_count p → IsOver p (left p m) a.region → IsOver p (right p m) b.region →
    Stands a (edges_at p (left p m)) → Stands b (edges_at p (right p m)) → CanJoin a b (map placed (lot_edges p m)) (edges_at p (left p m)) (edges_at p (right p m))
halves-join p m a b h low high oa ob sa sb = record {
  left_stands = sa;
  right_stands = sb;
  crosses = λ x i. (let e = placed-back (lot_edges p m) x i in
      subst (λ (z : PlacedEdge). parts.Crosses a.region b.region z) e.1.1 (cross e.0 (crosses p m e.0 h low high e.1.0)));
  apart = apart-listed (edges_at p (left p m) ++ edges_at p (right p m)) (lot_edges p m)
      (subst (λ (s : EdgeList). AreApart s) (joins_halves p m h low high).edges (has_edges p m h high).apart);
}
  where
    cross : (e : ListedEdge) → Crosses p m e → parts.Crosses a.region b.region (placed e)
    cross e (inl t) = inl (covers p (left p m) a.region e.u oa t.0, covers p (right p m) b.region e.v ob t.1)
    cross e (inr t) = inr (covers p (left p m) a.region e.v oa t.0, covers p (right p m) b.region e.u ob t.1)

-- and the whole stands for what is at and below the merge
pub halves-stand : (p : TilePlan) (m : ℕ) (part : PartState) → IsPlan p → tile_count p ≤ m → m < part_count p → Stands part ((edges_at p (left p m) ++ edges_at p (right p m)) ++ lot_edges p m) → Stands part (edges_at p m)
halves-stand p m part h low high s = subst (λ (l : EdgeList). Stands part l) (sym (joins_halves p m h low high).edges) s
