-- No two nodes of the tree of an edge list have the same vertices.
use Rattle.std.proofs.Common.{◌≡◌, ℕ, suc, ◌+◌, ◌-◌, ◌<◌, true, ◌⊎◌, inl, inr, refl, sym, ◌∙◌, subst, ap, arith, length}
use Rattle.std.specs.Prelude.{not}
use Rattle.std.proofs.lemmas.Bool.{cases_order, true≢false}
use Rattle.edge_laws.specs.Edges.{ListedEdge, EdgeList, AreApart, AreWithin, joined, below, joins}
use Rattle.hg_base.specs.Lists.{IsIn}
use Rattle.tree_laws.specs.Tree.{IsAbove, place, tree_of, IsFrontTree}
use Rattle.edge_laws.proofs.Walks.{IsSame-joined, joined-ends}
use Rattle.edge_laws.proofs.Members.{IsIn-below}
use Rattle.edge_laws.proofs.Sets.{joined_below-more, IsIn-joins_kept}
use Rattle.edge_laws.proofs.Fronts.{apart-one}
use Rattle.hg_base.proofs.Lists.{slice_get-some}
use Rattle.tree_laws.proofs.Nodes.{joins-index, length-parents}
use Rattle.tree_laws.proofs.Paths.{ancestor-path}
use Rattle.tree_laws.proofs.FrontTree.{above-made, front-component, front-node}

-- a node is a leaf, or made by a joining edge
abbrev pub IsLeafOrMade : ℕ → EdgeList → ℕ → Type 0
IsLeafOrMade n s i = (i < n) ⊎ ((e : ListedEdge) × (IsIn e (joins s) × (n + place s e ≡ i)))

pub leaf_or_made : (n : ℕ) (s : EdgeList) → AreApart s → (i : ℕ) → i < length (tree_of n s).parents → IsLeafOrMade n s i
leaf_or_made n s h i lt =
    elim (cases_order i n) [
      | inl level ↦ inr (made 0 (omega arith))
      | inr other ↦ elim other [ inl low ↦ inl low | inr high ↦ inr (made (i - n) (omega arith)) ]
    ]
  where
    made : (j : ℕ) → i ≡ n + j → (e : ListedEdge) × (IsIn e (joins s) × (n + place s e ≡ i))
    made j eq =
        let q : length (tree_of n s).parents ≡ n + length (joins s) = length-parents n s in
        let found = slice_get-some (joins s) j (omega arith) in
        let at = joins-index s h j found.0 found.1 in
        (found.0, (at.0, (let p : place s found.0 ≡ j = at.1 in omega arith)))

-- all that is below i is below j
abbrev pub IsBelowToo : ℕ → EdgeList → ℕ → ℕ → Type 0
IsBelowToo n s i j = (y : ℕ) → y < n → IsAbove (tree_of n s) i y → IsAbove (tree_of n s) j y

-- a leaf is below no other leaf
pub leaf-alone : (n : ℕ) (s : EdgeList) → AreApart s → (i y : ℕ) → i < n → y < n → IsAbove (tree_of n s) i y → i ≡ y
leaf-alone n s h i y lt lty a =
    elim (ancestor-path n s h y lty a.0) [
      | inl leaf ↦ sym a.1 ∙ leaf
      | inr made ↦ absurd (let q : i ≡ n + place s made.0 = sym a.1 ∙ made.1.node in omega arith)
    ]

-- both ends of a joining edge are below its node
pub below-ends : (n : ℕ) (s : EdgeList) → AreApart s → AreWithin n s → (e : ListedEdge) → IsIn e (joins s) →
    IsAbove (tree_of n s) (n + place s e) e.u × IsAbove (tree_of n s) (n + place s e) e.v
below-ends n s h within e i =
    let kept = IsIn-joins_kept s e i in
    let same = IsSame-joined (below s (suc e.rank)) in
    let ends : joined (below s (suc e.rank)) e.u e.v ≡ true = joined-ends (below s (suc e.rank)) e (IsIn-below e s (suc e.rank) kept.0 (omega arith)) in (
      (above-made n s h e kept.0 kept.1 e.u (within e kept.0).0).1 (same.self e.u),
      (above-made n s h e kept.0 kept.1 e.v (within e kept.0).1).1 (same.back e.u e.v ends),
    )

-- the ends of a joining edge aren't joined before it
pub ends-apart : (s : EdgeList) (e : ListedEdge) → IsIn e (joins s) → joined (below s e.rank) e.u e.v ≡ true → ⊥
ends-apart s e i j = true≢false (sym (IsIn-joins_kept s e i).1 ∙ ap not j)

-- an inner node has more below it than a leaf
not_a_leaf : (n : ℕ) (s : EdgeList) → AreApart s → AreWithin n s → (e : ListedEdge) → IsIn e (joins s) → (i : ℕ) → i < n → IsBelowToo n s (n + place s e) i → ⊥
not_a_leaf n s h within e i leaf lt too =
    let kept = IsIn-joins_kept s e i in
    let ends = below-ends n s h within e i in
    let u : leaf ≡ e.u = leaf-alone n s h leaf e.u lt (within e kept.0).0 (too e.u (within e kept.0).0 ends.0) in
    let v : leaf ≡ e.v = leaf-alone n s h leaf e.v lt (within e kept.0).1 (too e.v (within e kept.0).1 ends.1) in
    ends-apart s e i (subst (λ (y : ℕ). joined (below s e.rank) e.u y ≡ true) (sym u ∙ v) ((IsSame-joined (below s e.rank)).self e.u))

-- the node of an edge of higher rank has more below it
not_earlier : (n : ℕ) (s : EdgeList) → AreApart s → AreWithin n s → (e f : ListedEdge) → IsIn e (joins s) → IsIn f (joins s) → e.rank < f.rank →
    IsBelowToo n s (n + place s f) (n + place s e) → ⊥
not_earlier n s h within e f i j lt too =
    let ke = IsIn-joins_kept s e i in
    let kf = IsIn-joins_kept s f j in
    let same = IsSame-joined (below s (suc e.rank)) in
    let ends = below-ends n s h within f j in
    let u : joined (below s (suc e.rank)) f.u e.u ≡ true = (above-made n s h e ke.0 ke.1 f.u (within f kf.0).0).0 (too f.u (within f kf.0).0 ends.0) in
    let v : joined (below s (suc e.rank)) f.v e.u ≡ true = (above-made n s h e ke.0 ke.1 f.v (within f kf.0).1).0 (too f.v (within f kf.0).1 ends.1) in
    ends-apart s f j (joined_below-more s (suc e.rank) f.rank f.u f.v lt (same.on f.u e.u f.v u (same.back f.v e.u v)))

-- nodes with the same vertices are one
pub node-one : (n : ℕ) (s : EdgeList) → AreApart s → AreWithin n s → (i j : ℕ) → IsLeafOrMade n s i → IsLeafOrMade n s j →
    IsBelowToo n s i j → IsBelowToo n s j i → i ≡ j
node-one n s h within i j (inl a) (inl b) to back = sym (leaf-alone n s h j i b a (to i a (0, refl)))
node-one n s h within i j (inl a) (inr b) to back =
    absurd (not_a_leaf n s h within b.0 b.1.0 i a (λ y lt k. back y lt (subst (λ (m : ℕ). IsAbove (tree_of n s) m y) b.1.1 k)))
node-one n s h within i j (inr a) (inl b) to back =
    absurd (not_a_leaf n s h within a.0 a.1.0 j b (λ y lt k. to y lt (subst (λ (m : ℕ). IsAbove (tree_of n s) m y) a.1.1 k)))
node-one n s h within i j (inr a) (inr b) to back =
    elim (cases_order a.0.rank b.0.rank) [
      | inl level ↦ sym a.1.1 ∙ ap (λ (x : ListedEdge). n + place s x) (apart-one s h a.0 b.0 (IsIn-joins_kept s a.0 a.1.0).0 (IsIn-joins_kept s b.0 b.1.0).0 level) ∙ b.1.1
      | inr other ↦ elim other [
        | inl low ↦ absurd (not_earlier n s h within a.0 b.0 a.1.0 b.1.0 low (λ y lt k.
            subst (λ (m : ℕ). IsAbove (tree_of n s) m y) (sym a.1.1) (back y lt (subst (λ (m : ℕ). IsAbove (tree_of n s) m y) b.1.1 k))))
        | inr high ↦ absurd (not_earlier n s h within b.0 a.0 b.1.0 a.1.0 high (λ y lt k.
            subst (λ (m : ℕ). IsAbove (tree_of n s) m y) (sym b.1.1) (to y lt (subst (λ (m : ℕ). IsAbove (tree_of n s) m y) a.1.1 k))))
      ]
    ]

-- The tree of an edge list is a front tree.
pub front-tree : (n : ℕ) (s : EdgeList) → AreApart s → AreWithin n s → IsFrontTree (tree_of n s) n s
front-tree n s h within = record {
  each_component = front-component n s h;
  once = λ k x i j lt li lj hi hj. node-one n s h within i j (leaf_or_made n s h i li) (leaf_or_made n s h j lj)
      (λ y lty a. (hj y lty).1 ((hi y lty).0 a)) (λ y lty a. (hi y lty).1 ((hj y lty).0 a));
  each_node = front-node n s h within;
}
