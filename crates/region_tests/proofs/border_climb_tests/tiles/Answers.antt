use Rattle.std.proofs.Common.{◌≡◌, ℕ, inl, inr, refl, sym, subst, arith, [], ◌∷◌}
use Rattle.hg_base.specs.Lists.{IsIn}
use Rattle.hg_base.specs.declared.graph.PlacedEdge.{PlacedEdge}
use Rattle.node_region.specs.Pool.{CellPool, IsCovered}
use Rattle.border_climb.specs.Stands.{PartState}
use Rattle.border_climb.specs.Splicing.{KeepsRange}
use Rattle.border_climb.specs.Parts.{as_listed, Crosses}
use Rattle.region_tests.proofs.Checked.{apart-tested}
use Rattle.border_climb.proofs.Parts.{covered-on}
use Rattle.region_tests.proofs.border_climb_tests.tiles.Goals as goal

abbrev edge : ℕ → ℕ → ℕ → PlacedEdge
edge rank a b = record { rank = rank; a = a; b = b }

-- a place of a part that was built is one of the part that it was built from
built : (from empty : PartState) (pool : CellPool) → from ≡ empty → KeepsRange from.region pool → (x : ℕ) → IsCovered empty.region x → IsCovered pool x
built from empty pool is kept x cov = covered-on from.region pool kept x (subst (λ (p : PartState). IsCovered p.region x) (sym is) cov)

-- each of two edges has its first end on the left, its second on the right
both-cross : (left right : CellPool) (e f : PlacedEdge) → IsCovered left e.a → IsCovered right e.b → IsCovered left f.a → IsCovered right f.b → (g : PlacedEdge) → IsIn g (e ∷ f ∷ []) → Crosses left right g
both-cross left right e f ea eb fa fb g (inl same) = subst (λ (h : PlacedEdge). Crosses left right h) same (inl (ea, eb))
both-cross left right e f ea eb fa fb g (inr (inl same)) = subst (λ (h : PlacedEdge). Crosses left right h) same (inl (fa, fb))
both-cross left right e f ea eb fa fb g (inr (inr none)) = absurd none

pub join-whole-requires-clause-lists : goal.join-whole-requires-clause-lists
join-whole-requires-clause-lists g c =
    let left = built _ _ c.build_tile-left.result.region c.in_ok-left.ensures.part c.build_tile-left.ensures.range in
    let right = built _ _ c.build_tile-right.result.region c.in_ok-right.ensures.part c.build_tile-right.ensures.range in (
      as_listed (edge 2 0 1) ∷ [],
      (
        as_listed (edge 3 2 3) ∷ [],
        record {
          left_stands = c.build_tile-left.ensures.stands (as_listed (edge 2 0 1) ∷ []) refl;
          right_stands = c.build_tile-right.ensures.stands (as_listed (edge 3 2 3) ∷ []) refl;
          crosses = both-cross c.build_tile-left.result.region c.build_tile-right.result.region (edge 0 1 2) (edge 1 0 3)
              (left 1 (omega arith, omega arith)) (right 2 (omega arith, omega arith)) (left 0 (omega arith, omega arith)) (right 3 (omega arith, omega arith));
          apart = apart-tested (edge 2 0 1 ∷ edge 3 2 3 ∷ edge 0 1 2 ∷ edge 1 0 3 ∷ []) refl;
        },
      ),
    )
