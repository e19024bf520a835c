-- The path of a leaf in the tree of an edge list: the leaf, and the nodes that the edges of its chain make.
use Rattle.std.proofs.Common.{◌≡◌, ℕ, zero, suc, ◌+◌, ◌<◌, ◌≤◌, true, ◌⊎◌, inl, inr, refl, sym, ◌∙◌, subst, ap, arith}
use Rattle.std.specs.Prelude.{Option, Some, None, not}
use Rattle.std.proofs.lemmas.Bool.{false_from_ne_true, cases_order, true≢false}
use Rattle.edge_laws.specs.Edges.{ListedEdge, EdgeList, AreApart, joined, below, is_joining, joins, next}
use Rattle.hg_base.specs.Lists.{IsIn}
use Rattle.tree_laws.specs.Tree.{parent, ancestor, IsAbove, place, node_or, tree_of}
use Rattle.edge_laws.proofs.Walks.{IsSame-joined}
use Rattle.edge_laws.proofs.Sets.{IsIn-joins}
use Rattle.edge_laws.proofs.Fronts.{apart-one}
use Rattle.edge_laws.proofs.Leaving.{leaves, xor_cases}
use Rattle.edge_laws.proofs.Next.{IsFirst, next-first}
use Rattle.edge_laws.proofs.Merged.{next-row, joined-to_end}
use Rattle.tree_laws.proofs.Nodes.{parent-leaf, parent-inner}

-- an edge that leaves a component is a joining edge
pub leaving-joins : (s : EdgeList) (x : ℕ) (e : ListedEdge) → leaves s x e ≡ true → is_joining s e ≡ true
leaving-joins s x e t =
    let r = IsSame-joined (below s e.rank) in
    ap not (false_from_ne_true (joined (below s e.rank) e.u e.v) (λ k. elim (xor_cases (joined (below s e.rank) x e.u) (joined (below s e.rank) x e.v) t) [
      | inl p ↦ true≢false (sym (r.on x e.u e.v p.0 k) ∙ p.1)
      | inr p ↦ true≢false (sym (r.on x e.v e.u p.1 (r.back e.u e.v k)) ∙ p.0)
    ]))

-- y is on the path where it is the leaf, or the node of an edge that leaves the leaf's component
pub record IsMadeBy (n : ℕ) (s : EdgeList) (y i : ℕ) (e : ListedEdge) : Type 0 where
  pub member : IsIn e s
  pub leaving : leaves s y e ≡ true
  pub node : i ≡ n + place s e

pub IsIn-joins_made : (n : ℕ) (s : EdgeList) (y i : ℕ) (e : ListedEdge) → IsMadeBy n s y i e → IsIn e (joins s)
IsIn-joins_made n s y i e m = IsIn-joins s e m.member (leaving-joins s y e m.leaving)

-- the parent of a node made by e is made by the next edge of y's chain
parent-made : (n : ℕ) (s : EdgeList) → AreApart s → (y i : ℕ) (e : ListedEdge) → IsMadeBy n s y i e →
    parent (tree_of n s) i ≡ node_or n s i (next s y (suc e.rank))
parent-made n s h y i e m =
    subst (λ (j : ℕ). parent (tree_of n s) j ≡ node_or n s j (next s y (suc e.rank))) (sym m.node)
    (parent-inner n s h e (IsIn-joins_made n s y i e m)
    ∙ ap (node_or n s (n + place s e)) (sym (next-row s h y e.u (suc e.rank) (joined-to_end s e y m.member m.leaving))))

-- a node on the path of y
abbrev pub IsOnPath : ℕ → EdgeList → ℕ → ℕ → Type 0
IsOnPath n s y i = (i ≡ y) ⊎ ((e : ListedEdge) × IsMadeBy n s y i e)

-- the node that `node_or` gives is on the path, where the first node is
node_or-path : (n : ℕ) (s : EdgeList) (y k i : ℕ) (o : Option ListedEdge) → IsFirst (leaves s y) s k o → IsOnPath n s y i → IsOnPath n s y (node_or n s i o)
node_or-path n s y k i None f on = on
node_or-path n s y k i (Some e) f on = inr (e, record { member = f.0.0; leaving = f.0.1.0; node = refl })

-- each ancestor of a leaf is the leaf, or made by an edge that leaves its component
pub ancestor-path : (n : ℕ) (s : EdgeList) → AreApart s → (y : ℕ) → y < n → (d : ℕ) → IsOnPath n s y (ancestor (tree_of n s) d y)
ancestor-path n s h y lt zero = inl refl
ancestor-path n s h y lt (suc d) =
    elim (ancestor-path n s h y lt d) [
      | inl leaf ↦ subst (λ (i : ℕ). IsOnPath n s y i)
          (sym (ap (parent (tree_of n s)) leaf ∙ parent-leaf n s y lt))
          (node_or-path n s y 0 y (next s y 0) (next-first s h y 0) (inl refl))
      | inr made ↦ subst (λ (i : ℕ). IsOnPath n s y i)
          (sym (parent-made n s h y (ancestor (tree_of n s) d y) made.0 made.1))
          (node_or-path n s y (suc made.0.rank) (ancestor (tree_of n s) d y) (next s y (suc made.0.rank)) (next-first s h y (suc made.0.rank)) (inr made))
    ]

-- the d-th ancestor of y has as parent what `next` from rank k on makes
abbrev pub NextFrom : ℕ → EdgeList → ℕ → ℕ → ℕ → Type 0
NextFrom n s y d k = parent (tree_of n s) (ancestor (tree_of n s) d y) ≡ node_or n s (ancestor (tree_of n s) d y) (next s y k)

-- each edge that leaves y's component, from rank k on, makes an ancestor
climb_to : (n : ℕ) (s : EdgeList) → AreApart s → (m y d k : ℕ) → NextFrom n s y d k →
    (e : ListedEdge) → IsIn e s → leaves s y e ≡ true → k ≤ e.rank → e.rank < k + m → IsAbove (tree_of n s) (n + place s e) y
climb_to n s h zero y d k from e i t low high = absurd (omega arith)
climb_to n s h (suc m) y d k from e i t low high =
    go (λ j from' low' high'. climb_to n s h m y (suc d) j from' e i t low' high') (next s y k) refl (next-first s h y k)
  where
    Again : Type 0
    Again = (j : ℕ) → NextFrom n s y (suc d) j → j ≤ e.rank → e.rank < j + m → IsAbove (tree_of n s) (n + place s e) y

    go : Again → (o : Option ListedEdge) → next s y k ≡ o → IsFirst (leaves s y) s k o → IsAbove (tree_of n s) (n + place s e) y
    go again None eq f = absurd (let below_k : e.rank < k = f e i t in omega arith)
    go again (Some g) eq f =
        let up : parent (tree_of n s) (ancestor (tree_of n s) d y) ≡ n + place s g = from ∙ ap (node_or n s (ancestor (tree_of n s) d y)) eq in
        let made : IsMadeBy n s y (ancestor (tree_of n s) (suc d) y) g = record { member = f.0.0; leaving = f.0.1.0; node = up } in
        let least : g.rank ≤ e.rank = f.1 e i t low in
        let from_k : k ≤ g.rank = f.0.1.1 in
        elim (cases_order g.rank e.rank) [
          | inl level ↦ (suc d, up ∙ ap (λ (x : ListedEdge). n + place s x) (apart-one s h g e f.0.0 i level))
          | inr other ↦ elim other [
            | inl lower ↦ again (suc g.rank) (parent-made n s h y (ancestor (tree_of n s) (suc d) y) g made) lower (omega arith)
            | inr higher ↦ absurd (omega arith)
          ]
        ]

-- each edge that leaves the component of a leaf makes a node above it
pub made-above : (n : ℕ) (s : EdgeList) → AreApart s → (y : ℕ) → y < n → (e : ListedEdge) → IsIn e s → leaves s y e ≡ true → IsAbove (tree_of n s) (n + place s e) y
made-above n s h y lt e i t = climb_to n s h (suc e.rank) y 0 0 (parent-leaf n s y lt) e i t (omega arith) (omega arith)
