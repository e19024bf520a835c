-- The attributes of a node's vertices from sums and least values over them.
use Rattle.std.proofs.Common.{◌≡◌, ℕ, ◌+◌, ◌-◌, ◌*◌, ◌<◌, ◌≤◌, ◌^◌, inl, inr, refl, sym, ◌∙◌, subst, ap, arith, List, [], ◌∷◌, length, get_or, map, mul_comm}
use Rattle.std.specs.Prelude.{min}
use Rattle.std.specs.List.{range_with_len, fold, sum_by}
use Rattle.std.proofs.lemmas.List.Sums.{sum_by-cons, sum_by-le}
use Rattle.std.proofs.lemmas.List.Folds.{fold-map}
use Rattle.std.proofs.lemmas.List.FromFn.{length-range_with_len, get_or-range_with_len, get_or-map-range_with_len}
use Rattle.std.proofs.Math.Nat.{mul-add, mul-zero}
use Rattle.hg_base.specs.Graph.{WeightedGraph, IsGraph, AreLight}
use Rattle.hg_base.specs.Lists.{IsIn}
use Rattle.edge_laws.specs.Rank.{ranked}
use Rattle.tree_laws.specs.Tree.{ParentTree, parent, altitude, IsAbove, graph_tree}
use Rattle.tree_laws.specs.Levels.{is_above}
use Rattle.hg_base.proofs.Lists.{IsIn-filter, IsIn-kept}
use Rattle.edge_laws.proofs.Ranked.{AreApart-ranked, AreWithin-ranked, AreByWeight-ranked}
use Rattle.tree_laws.proofs.Levels.{level-tree}
use Rattle.tree_laws.proofs.Tops.{is_above-from, is_above-to}
use Rattle.partition_tree.specs.TreeLists.{nodes, IsWellFormed}
use Rattle.partition_tree.proofs.TreeLemmas.{tree-well_formed}
use Rattle.partition_tree.proofs.WellFormed.{well_formed-climbs, well_formed-leaves}
use Rattle.attributes.specs.declared.gather.Operation.TheVariants as operations
use Rattle.attributes.specs.Gathering.{combined, neutral, gathered, AreOfLeaves}
use Rattle.attributes.specs.Attributes.{area, floor, least, vertices_below, area_of, volume_under, altitude_over}
use Rattle.attributes.proofs.Gathers.{gathered-agree}
use Rattle.attributes.proofs.LowFloors.{floors-low, altitudes-small, least-le, in-mapped}
use Rattle.partition_tree.proofs.ListTests.{range-to, range-from}

-- what the tree of a graph keeps to
pub record HasGraphTree (g : WeightedGraph) (t : ParentTree) : Type 0 where
  pub well_formed : IsWellFormed t
  pub leaves : t.leaves ≡ g.n
  pub some_leaf : (i : ℕ) → i < nodes t → (x : ℕ) × ((x < t.leaves) × IsAbove t i x)
  pub low : (i x : ℕ) → i < nodes t → x < t.leaves → IsAbove t i x → floor g x ≤ altitude_over t i
  pub small : (j : ℕ) → j < nodes t → altitude t j < 2 ^ 32

-- so it is for every graph whose weights have 32 bits
pub tree-of_graph : (g : WeightedGraph) (t : ParentTree) → t ≡ graph_tree g → IsGraph g → AreLight g.edges → HasGraphTree g t
tree-of_graph g t same graph light =
    subst (HasGraphTree g) (sym same) (record {
      well_formed = tree-well_formed g.n (ranked g) graph.some_vertex graph.vertices (AreApart-ranked g) (AreWithin-ranked g graph);
      leaves = refl;
      some_leaf = (level-tree g.n (ranked g) (AreApart-ranked g) (AreWithin-ranked g graph) (AreByWeight-ranked g)).some_leaf;
      low = λ i x hi hx a. floors-low g graph i x hi hx a;
      small = altitudes-small g light;
    })

-- the vertices of a node are the leaves below it
pub vertex-in : (t : ParentTree) (i x : ℕ) → IsIn x (vertices_below t i) → (x < t.leaves) × IsAbove t i x
vertex-in t i x m =
    let kept = IsIn-kept (is_above t i) x (range_with_len 0 t.leaves) m in
    (let low : x < 0 + t.leaves = (range-to 0 t.leaves x kept.1).1 in omega (arith, low), is_above-to t i x kept.0)

-- a node has a vertex
vertex-some : (t : ParentTree) → IsWellFormed t → (i x : ℕ) → x < t.leaves → IsAbove t i x → IsIn x (vertices_below t i)
vertex-some t f i x h a =
    let few = well_formed-leaves t f in
    IsIn-filter (is_above t i) x (range_with_len 0 t.leaves) (is_above-from t (well_formed-climbs t f) i x (omega arith) a) (range-from 0 t.leaves x (omega arith) (omega arith))

-- the floors of a node's vertices are no higher than the altitude over it
pub floors-in : (g : WeightedGraph) (t : ParentTree) → HasGraphTree g t → (i : ℕ) → i < nodes t → (x : ℕ) → IsIn x (vertices_below t i) → floor g x ≤ altitude_over t i
floors-in g t k i h x m = let v = vertex-in t i x m in k.low i x h v.0 v.1

-- the values of a node's leaves, put together, by a function of the vertex
pub sums-are : (t : ParentTree) (f : ℕ → ℕ) (values sums : List ℕ) → AreOfLeaves operations.Sum t values sums → values ≡ map f (range_with_len 0 t.leaves) → (i : ℕ) → i < nodes t →
    get_or sums i 0 ≡ sum_by f (vertices_below t i)
sums-are t f values sums a made i h =
    a.each i h
    ∙ gathered-agree operations.Sum (λ x. get_or values x 0) f (is_above t i) (is_above t i) t.leaves (λ x l. refl)
    (λ x l. ap (λ (xs : List ℕ). get_or xs x 0) made ∙ get_or-map-range_with_len f 0 t.leaves x x 0 l (omega arith))
    ∙ fold-map (combined operations.Sum) f 0 (vertices_below t i)

-- the least of 64-bit numbers and the greatest of them is their least
least-all : (ks : List ℕ) (k : ℕ) → IsIn k ks → ((j : ℕ) → IsIn j ks → j < 2 ^ 64) → fold min (neutral operations.Least) ks ≡ least ks
least-all [] k i small = absurd i
least-all (j ∷ js) k i small =
    let fits = small j (inl refl) in
    let first : min (neutral operations.Least) j ≡ j = omega (arith, fits) in
    ap (λ (a : ℕ). fold min a js) first

-- each value is that at an element
in-mapped_back : (f : ℕ → ℕ) (xs : List ℕ) (y : ℕ) → IsIn y (map f xs) → (x : ℕ) × (IsIn x xs × (f x ≡ y))
in-mapped_back f [] y i = absurd i
in-mapped_back f (x ∷ xs) y (inl same) = (x, (inl refl, same))
in-mapped_back f (x ∷ xs) y (inr later) = let r = in-mapped_back f xs y later in (r.0, (inr r.1.0, r.1.1))

-- the least of the floors of a node's leaves
pub lowest-is : (g : WeightedGraph) (t : ParentTree) → HasGraphTree g t → (values lowest : List ℕ) → AreOfLeaves operations.Least t values lowest → values ≡ map (floor g) (range_with_len 0 t.leaves) → (i : ℕ) → i < nodes t →
    get_or lowest i 0 ≡ least (map (floor g) (vertices_below t i))
lowest-is g t k values lowest a made i h =
    let some = k.some_leaf i h in
    a.each i h
    ∙ gathered-agree operations.Least (λ x. get_or values x 0) (floor g) (is_above t i) (is_above t i) t.leaves (λ x l. refl)
    (λ x l. ap (λ (xs : List ℕ). get_or xs x 0) made ∙ get_or-map-range_with_len (floor g) 0 t.leaves x x 0 l (omega arith))
    ∙ least-all (map (floor g) (vertices_below t i)) (floor g some.0) (in-mapped (floor g) (vertices_below t i) some.0 (vertex-some t k.well_formed i some.0 some.1.0 some.1.1))
    (λ j m.
    let x = in-mapped_back (floor g) (vertices_below t i) j m in
    let low : floor g x.0 ≤ altitude_over t i = floors-in g t k i h x.0 x.1.0 in
    let small : altitude_over t i < 2 ^ 32 = k.small (parent t i) (k.well_formed.within i h) in
    omega (arith, low, small, x.1.1))

-- the lowest floor is no higher than the altitude over the node
pub lowest-low : (g : WeightedGraph) (t : ParentTree) → HasGraphTree g t → (i : ℕ) → i < nodes t → least (map (floor g) (vertices_below t i)) ≤ altitude_over t i
lowest-low g t k i h =
    let some = k.some_leaf i h in
    let m = vertex-some t k.well_formed i some.0 some.1.0 some.1.1 in
    let low : least (map (floor g) (vertices_below t i)) ≤ floor g some.0 = least-le (map (floor g) (vertices_below t i)) (floor g some.0) (in-mapped (floor g) (vertices_below t i) some.0 m) in
    let under : floor g some.0 ≤ altitude_over t i = floors-in g t k i h some.0 m in
    omega (arith, low, under)

-- area times depth and area times floor are area times altitude
balance-one : (a p f q s z : ℕ) → f ≤ p → q + s ≡ p * z → (a * (p - f) + q) + (a * f + s) ≡ p * (a + z)
balance-one a p f q s z low rest =
    let d = p - f in
    let split : p ≡ d + f = omega arith in
    let whole : a * p ≡ a * d + a * f = ap (λ (k : ℕ). a * k) split ∙ mul-add a d f in
    let both : p * (a + z) ≡ a * p + p * z = mul-add p a z ∙ ap (λ (k : ℕ). k + p * z) (mul_comm p a) in
    omega (arith, whole, both, rest)

-- the same of all vertices of a list
pub balance : (g : WeightedGraph) (p : ℕ) (xs : List ℕ) → ((x : ℕ) → IsIn x xs → floor g x ≤ p) → volume_under g p xs + sum_by (λ x. area g x * floor g x) xs ≡ p * area_of g xs
balance g p [] low = sym (mul-zero p)
balance g p (x ∷ xs) low =
    ap (λ (k : ℕ). k + sum_by (λ y. area g y * floor g y) (x ∷ xs)) (sum_by-cons (λ y. area g y * (p - floor g y)) x xs)
    ∙ ap (λ (k : ℕ). (area g x * (p - floor g x) + volume_under g p xs) + k) (sum_by-cons (λ y. area g y * floor g y) x xs)
    ∙ balance-one (area g x) p (floor g x) (volume_under g p xs) (sum_by (λ y. area g y * floor g y) xs) (area_of g xs) (low x (inl refl)) (balance g p xs (λ y i. low y (inr i)))
    ∙ ap (λ (k : ℕ). p * k) (sym (sum_by-cons (area g) x xs))

-- values of at most m each sum to at most n times m
pub sum-bound : (f : ℕ → ℕ) (m n : ℕ) → ((x : ℕ) → x < n → f x ≤ m) → gathered operations.Sum f (range_with_len 0 n) ≤ n * m
sum-bound f m n each =
    let same : gathered operations.Sum f (range_with_len 0 n) ≡ sum_by f (range_with_len 0 n) = fold-map (combined operations.Sum) f 0 (range_with_len 0 n) in
    let long : length (range_with_len 0 n) ≡ n = length-range_with_len 0 n in
    let bound : sum_by f (range_with_len 0 n) ≤ length (range_with_len 0 n) * m = sum_by-le f m (range_with_len 0 n)
    (λ k d h. let low : k < n = omega (arith, h, long) in subst (λ (x : ℕ). f x ≤ m) (sym (get_or-range_with_len 0 n k d low ∙ (let e : 0 + k ≡ k = omega arith in e))) (each k low)) in
    subst (λ (s : ℕ). s ≤ n * m) (sym same) (subst (λ (l : ℕ). sum_by f (range_with_len 0 n) ≤ l * m) long bound)
