-- The altitudes of the tree of an edge list.
use Rattle.std.proofs.Common.{◌≡◌, ℕ, suc, ◌+◌, ◌<◌, ◌≤◌, true, inl, inr, subst, arith, length}
use Rattle.std.specs.Prelude.{◌↔◌}
use Rattle.std.proofs.lemmas.Bool.{both_ways, cases_lt, not-true}
use Rattle.edge_laws.specs.Edges.{ListedEdge, EdgeList, AreApart, AreWithin, below, is_joining, joined, joins}
use Rattle.hg_base.specs.Lists.{IsIn}
use Rattle.tree_laws.specs.Tree.{IsAbove, altitude, place, tree_of}
use Rattle.tree_laws.proofs.FrontTree.{above-made}
use Rattle.edge_laws.proofs.Link.{IsSame}
use Rattle.tree_laws.proofs.Meeting.{altitude-inner, altitude-leaf}
use Rattle.edge_laws.proofs.Members.{IsIn-below}
use Rattle.tree_laws.proofs.Nodes.{length-parents}
use Rattle.edge_laws.proofs.Sets.{IsIn-joins_kept, joined_below-more}
use Rattle.tree_laws.proofs.TreeNodes.{node-cases}
use Rattle.edge_laws.proofs.Walks.{IsSame-joined, joined-ends}
use Rattle.higra_report.specs.Altitudes.{HasAltitudes, IsLastJoining}

-- the edge that made a node is the last joining one between its leaves
made-last : (n : ℕ) (s : EdgeList) → AreApart s → AreWithin n s → (e : ListedEdge) → IsIn e (joins s) → IsLastJoining (tree_of n s) s (n + place s e) e
made-last n s h within e i = record {
  joining = i;
  first = (above e.u (within e kept.0).0).1 (same.self e.u);
  second = (above e.v (within e kept.0).1).1 (same.back e.u e.v (joined-ends (below s (suc e.rank)) e (IsIn-below e s (suc e.rank) kept.0 (omega arith))));
  last = λ f j a b. elim (cases_lt e.rank f.rank) [
    | inl higher ↦ absurd (both_ways (joined (below s f.rank) f.u f.v) (not-true (joined (below s f.rank) f.u f.v) (IsIn-joins_kept s f j).1) (joined_below-more s (suc e.rank) f.rank f.u f.v (omega (arith, higher)) (between f j a b)))
    | inr lower ↦ lower
  ];
}
  where
    kept : IsIn e s × (is_joining s e ≡ true)
    kept = IsIn-joins_kept s e i

    same : IsSame (joined (below s (suc e.rank)))
    same = IsSame-joined (below s (suc e.rank))

    above : (y : ℕ) → y < n → IsAbove (tree_of n s) (n + place s e) y ↔ (joined (below s (suc e.rank)) y e.u ≡ true)
    above y lt = above-made n s h e kept.0 kept.1 y lt

    between : (f : ListedEdge) → IsIn f (joins s) → IsAbove (tree_of n s) (n + place s e) f.u → IsAbove (tree_of n s) (n + place s e) f.v → joined (below s (suc e.rank)) f.u f.v ≡ true
    between f j a b =
        let ends = within f (IsIn-joins_kept s f j).0 in
        same.on f.u e.u f.v ((above f.u ends.0).0 a) (same.back f.v e.u ((above f.v ends.1).0 b))

-- the altitudes of the tree of an edge list
pub altitudes-are : (n : ℕ) (s : EdgeList) → AreApart s → AreWithin n s → HasAltitudes (tree_of n s) s
altitudes-are n s h within = record { leaves = λ x lt. altitude-leaf n s x lt; inner = inner }
  where
    inner : (i : ℕ) → n ≤ i → i < length (tree_of n s).parents → (e : ListedEdge) × (IsLastJoining (tree_of n s) s i e × (altitude (tree_of n s) i ≡ e.weight))
    inner i high low =
        let nodes : length (tree_of n s).parents ≡ n + length (joins s) = length-parents n s in
        elim (node-cases n s h i (omega (arith, nodes, low))) [
          | inl leaf ↦ absurd (omega (arith, leaf, high))
          | inr made ↦ (
            made.0,
            (
              subst (λ (k : ℕ). IsLastJoining (tree_of n s) s k made.0) made.1.node (made-last n s h within made.0 made.1.member),
              subst (λ (k : ℕ). altitude (tree_of n s) k ≡ made.0.weight) made.1.node (altitude-inner n s h made.0 made.1.member),
            ),
          )
        ]
