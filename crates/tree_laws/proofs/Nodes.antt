-- The nodes of the tree of an edge list: which edge made a node, and which node is its parent.
use Rattle.std.proofs.Common.{◌≡◌, ℕ, suc, ◌+◌, ◌<◌, refl, sym, ◌∙◌, ap, arith, length, map, length-append}
use Rattle.std.proofs.lemmas.List.{length-map}
use Rattle.std.specs.Prelude.{Option, Some, unwrap_or, slice_get}
use Rattle.std.specs.List.{range_with_len}
use Rattle.std.proofs.lemmas.List.FromFn.{length-map-range_with_len}
use Rattle.edge_laws.specs.Edges.{ListedEdge, EdgeList, AreApart, joins, next}
use Rattle.hg_base.specs.Lists.{IsIn}
use Rattle.tree_laws.specs.Tree.{parent, place, node_or, tree_of}
use Rattle.edge_laws.proofs.Sets.{IsRising-joins}
use Rattle.hg_base.proofs.Lists.{slice_get-front, slice_get-back, slice_get-values, slice_get-mapped}
use Rattle.edge_laws.proofs.Rises.{rising-place, rising-index}

-- the joining edge at its place
pub joins-at : (s : EdgeList) → AreApart s → (e : ListedEdge) → IsIn e (joins s) → slice_get (joins s) (place s e) ≡ Some e
joins-at s h e i = rising-place (joins s) (IsRising-joins s h) e i

pub joins-index : (s : EdgeList) → AreApart s → (i : ℕ) (e : ListedEdge) → slice_get (joins s) i ≡ Some e → IsIn e (joins s) × (place s e ≡ i)
joins-index s h i e eq = rising-index (joins s) (IsRising-joins s h) i e eq

-- edges of one place are one
pub place-one : (s : EdgeList) → AreApart s → (e f : ListedEdge) → IsIn e (joins s) → IsIn f (joins s) → place s e ≡ place s f → e ≡ f
place-one s h e f i j same =
    let p : slice_get (joins s) (place s e) ≡ Some e = joins-at s h e i in
    let q : slice_get (joins s) (place s f) ≡ Some f = joins-at s h f j in
    let r : Some e ≡ Some f = sym p ∙ ap (slice_get (joins s)) same ∙ q in
    cc

-- how many nodes the tree has
pub length-parents : (n : ℕ) (s : EdgeList) → length (tree_of n s).parents ≡ n + length (joins s)
length-parents n s =
    length-append (map (λ x. node_or n s x (next s x 0)) (range_with_len 0 n)) (map (λ e. node_or n s (n + place s e) (next s e.u (suc e.rank))) (joins s))
    ∙ rw (length-map-range_with_len (λ x. node_or n s x (next s x 0)) 0 n, length-map) refl

-- the parent of a leaf is made by the first edge of its chain
pub parent-leaf : (n : ℕ) (s : EdgeList) (x : ℕ) → x < n → parent (tree_of n s) x ≡ node_or n s x (next s x 0)
parent-leaf n s x h =
    let f : ℕ → ℕ = λ y. node_or n s y (next s y 0) in
    let g : ListedEdge → ℕ = λ e. node_or n s (n + place s e) (next s e.u (suc e.rank)) in
    let len : length (map (λ y. node_or n s y (next s y 0)) (range_with_len 0 n)) ≡ n = length-map-range_with_len (λ y. node_or n s y (next s y 0)) 0 n in
    ap (λ (o : Option ℕ). unwrap_or o x)
    (slice_get-front (map (λ y. node_or n s y (next s y 0)) (range_with_len 0 n)) (map (λ e. node_or n s (n + place s e) (next s e.u (suc e.rank))) (joins s)) x (omega arith)
    ∙ slice_get-values (λ y. node_or n s y (next s y 0)) 0 n x x h (omega arith))

-- the parent of an inner node is made by the edge after its own
pub parent-inner : (n : ℕ) (s : EdgeList) → AreApart s → (e : ListedEdge) → IsIn e (joins s) →
    parent (tree_of n s) (n + place s e) ≡ node_or n s (n + place s e) (next s e.u (suc e.rank))
parent-inner n s h e i =
    let len : length (map (λ y. node_or n s y (next s y 0)) (range_with_len 0 n)) ≡ n = length-map-range_with_len (λ y. node_or n s y (next s y 0)) 0 n in
    ap (λ (o : Option ℕ). unwrap_or o (n + place s e))
    (slice_get-back (map (λ y. node_or n s y (next s y 0)) (range_with_len 0 n)) (map (λ f. node_or n s (n + place s f) (next s f.u (suc f.rank))) (joins s)) (place s e) (n + place s e) (omega (arith, len))
    ∙ slice_get-mapped (λ f. node_or n s (n + place s f) (next s f.u (suc f.rank))) (joins s) (place s e) e (joins-at s h e i))
