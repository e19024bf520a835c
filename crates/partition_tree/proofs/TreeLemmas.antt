-- The tree of an edge list is well formed, and its altitudes are the weights at which vertices get joined.
use Rattle.std.proofs.Common.{◌≡◌, ◌≢◌, ℕ, ◌+◌, ◌<◌, ◌≤◌, inl, inr, refl, sym, ◌∙◌, ap, arith, length, map, length-append}
use Rattle.std.specs.Prelude.{replicate}
use Rattle.std.proofs.lemmas.List.{length-map, length-replicate}
use Rattle.edge_laws.specs.Edges.{ListedEdge, EdgeList, AreApart, AreWithin, joined, joins, components}
use Rattle.hg_base.specs.Counting.{is_least, count_below}
use Rattle.tree_laws.specs.Tree.{parent, altitude, place, tree_of}
use Rattle.edge_laws.specs.Saliency.{AreByWeight}
use Rattle.edge_laws.proofs.Sets.{IsIn-joins_kept}
use Rattle.edge_laws.proofs.Components.{joins-count}
use Rattle.tree_laws.proofs.Nodes.{length-parents}
use Rattle.tree_laws.proofs.Meeting.{altitude-leaf, altitude-inner}
use Rattle.tree_laws.proofs.TreeNodes.{made-within, HasParent, node-cases, leaf-parent, made-parent}
use Rattle.partition_tree.specs.TreeLists.{nodes, IsWellFormed}
use Rattle.partition_tree.proofs.ChildLemmas.{count-less}

-- where the parent of a node is
pub record IsUp (n : ℕ) (s : EdgeList) (i : ℕ) : Type 0 where
  pub rises : i ≤ parent (tree_of n s) i
  pub within : parent (tree_of n s) i < nodes (tree_of n s)
  pub inner : parent (tree_of n s) i ≢ i → n ≤ parent (tree_of n s) i

own-up : (n : ℕ) (s : EdgeList) (i : ℕ) → i < nodes (tree_of n s) → parent (tree_of n s) i ≡ i → IsUp n s i
own-up n s i lt eq = record { rises = omega arith; within = (let e : parent (tree_of n s) i ≡ i = eq in omega arith); inner = λ ne. absurd (ne eq) }

made-up : (n : ℕ) (s : EdgeList) → AreApart s → (i : ℕ) (f : ListedEdge) → HasParent n s i f → IsUp n s i
made-up n s h i f p =
    let is : parent (tree_of n s) i ≡ n + place s f = p.is in
    let up : i < n + place s f = p.up in
    let low : n + place s f < nodes (tree_of n s) = made-within n s h f p.member in
    record { rises = omega arith; within = omega arith; inner = λ ne. (omega arith) }

pub tree-up : (n : ℕ) (s : EdgeList) → AreApart s → (i : ℕ) → i < nodes (tree_of n s) → IsUp n s i
tree-up n s h i lt =
    let len : nodes (tree_of n s) ≡ n + length (joins s) = length-parents n s in
    elim (node-cases n s h i (omega arith)) [
      | inl leaf ↦ elim (leaf-parent n s h i leaf) [ inl own ↦ own-up n s i lt own | inr p ↦ made-up n s h i p.0 p.1 ]
      | inr made ↦ elim (made-parent n s h i made.0 made.1) [ inl own ↦ own-up n s i lt own | inr p ↦ made-up n s h i p.0 p.1.0 ]
    ]

-- fewer edges join than there are vertices
pub joins-few : (n : ℕ) (s : EdgeList) → 1 ≤ n → AreApart s → AreWithin n s → length (joins s) < n
joins-few n s some h within =
    let sum : length (joins s) + components n s ≡ n = joins-count n s h within in
    let first : count_below (is_least (joined s)) 0 < components n s = count-less (is_least (joined s)) 0 n (omega arith) refl in
    omega (arith, sum, first)

-- the tree of an edge list is well formed
pub tree-well_formed : (n : ℕ) (s : EdgeList) → 1 ≤ n → n ≤ 1048576 → AreApart s → AreWithin n s → IsWellFormed (tree_of n s)
tree-well_formed n s some few h within =
    let len : nodes (tree_of n s) ≡ n + length (joins s) = length-parents n s in
    let less : length (joins s) < n = joins-few n s some h within in
    record {
      some_leaf = some;
      few_leaves = few;
      small = omega arith;
      one_altitude_each = length-append (replicate n 0) (map (λ (e : ListedEdge). e.weight) (joins s)) ∙ rw (length-replicate {A = ℕ} n 0, length-map) (sym len);
      one_maker_each = rw length-map (sym len);
      rises = λ i lt. (tree-up n s h i lt).rises;
      within = λ i lt. (tree-up n s h i lt).within;
      inner = λ i lt. (tree-up n s h i lt).inner;
      low_leaves = λ i lt. altitude-leaf n s i lt;
    }

-- altitudes don't fall going up
pub tree-rises : (n : ℕ) (s : EdgeList) → AreApart s → AreByWeight s → (i : ℕ) → i < nodes (tree_of n s) → altitude (tree_of n s) i ≤ altitude (tree_of n s) (parent (tree_of n s) i)
tree-rises n s h by i lt =
    let len : nodes (tree_of n s) ≡ n + length (joins s) = length-parents n s in
    elim (node-cases n s h i (omega arith)) [
      | inl leaf ↦ (let z : altitude (tree_of n s) i ≡ 0 = altitude-leaf n s i leaf in omega arith)
      | inr made ↦ elim (made-parent n s h i made.0 made.1) [
        | inl own ↦ (let e : altitude (tree_of n s) (parent (tree_of n s) i) ≡ altitude (tree_of n s) i = ap (altitude (tree_of n s)) own in omega arith)
        | inr p ↦ (let low : altitude (tree_of n s) i ≡ made.0.weight = ap (altitude (tree_of n s)) (sym made.1.node) ∙ altitude-inner n s h made.0 made.1.member in
            let high : altitude (tree_of n s) (parent (tree_of n s) i) ≡ p.0.weight = ap (altitude (tree_of n s)) p.1.0.is ∙ altitude-inner n s h p.0 p.1.0.member in
            let up : made.0.weight ≤ p.0.weight = by made.0 p.0 (IsIn-joins_kept s made.0 made.1.member).0 (IsIn-joins_kept s p.0 p.1.0.member).0 p.1.1 in
            omega arith)
      ]
    ]
