-- The sorted list of joining edges, and its tree.
use Rattle.std.proofs.Common.{◌≡◌, ℕ, zero, suc, ◌+◌, ◌<◌, ◌≤◌, refl, sym, ◌∙◌, ap, subst, arith, List, [], ◌∷◌, ◌++◌, length, get_or, map, All, replicate, append_assoc, length-append}
use Rattle.std.specs.Prelude.{Option, Some, None, slice_get, IsPermutation, Result, Ok, Err, IfOk}
use Rattle.std.specs.Option.{option_map_or}
use Rattle.std.specs.List.{range_with_len}
use Rattle.std.proofs.lemmas.List.{length-map}
use Rattle.std.proofs.lemmas.List.FromFn.{get_or-map-range_with_len, length-map-range_with_len, map-range_with_len_more}
use Rattle.std.proofs.lemmas.Option.{get_or_from_slice_get}
use Rattle.hg_base.specs.Graph.{WeightedGraph}
use Rattle.edge_laws.specs.Edges.{ListedEdge, EdgeList, IsSameSet, AreApart, below, joins, next}
use Rattle.hg_base.specs.Lists.{IsIn}
use Rattle.edge_laws.specs.Rank.{ranked, number_at}
use Rattle.tree_laws.specs.Tree.{place, node_or, tree_of}
use Rattle.hg_base.proofs.Leasts.{map-agree}
use Rattle.hg_base.proofs.Lists.{slice_get-some, slice_get-mapped}
use Rattle.tree_laws.proofs.Nodes.{joins-index}
use Rattle.edge_laws.proofs.Ranked.{AreApart-ranked}
use Rattle.edge_laws.proofs.Sets.{joins-same, next-same}
use Rattle.edge_order.specs.Tables.{key, sorted_keys_of}
use Rattle.partition_tree.specs.declared.list.Ranked.{Ranked}
use Rattle.partition_tree.specs.Ranked.{IsRankedEdge, IsRankedList, edge_at, edges_of}
use Rattle.partition_tree.proofs.ListLemmas.{edges-placed, placed-edges}
use Rattle.watershed_cut.proofs.NodeLabels.{IsMakerOf, maker-of}
use Rattle.watershed_cut.proofs.Star.{in-map, map-in}
use Rattle.extinction.specs.HierarchicalWatershed.{persistence_rank, by_persistence, persistence_edges}
use Rattle.extinction.specs.PersistenceOrder.{IsPersistenceOrder, AreSorted, ranked_of, IsListedBy, IsListOf}
use Rattle.extinction.proofs.PersistenceRanks.{weighed, weighed-length, weighed-weight, persistence_rank-below, persistence_rank-number, number-persistence_rank, number-below, persistence_rank-rises}
use Rattle.extinction.proofs.ByPersistence.{place-low}

-- the tree of a list depends on the set of its edges alone
pub tree-same : (n : ℕ) (s r : EdgeList) → AreApart s → AreApart r → IsSameSet s r → tree_of n s ≡ tree_of n r
tree-same n s r hs hr same = λ i. record {
  leaves = n;
  parents = (ap (λ (xs : List ℕ). xs ++ inners s) leafs ∙ ap (λ (xs : List ℕ). leafs_of r ++ xs) inner) i;
  altitudes = replicate n 0 ++ map (λ e. e.weight) (edges i);
  makers = map (λ e. e.number) (edges i);
}
  where
    edges : joins s ≡ joins r
    edges = joins-same s r hs hr same

    leafs_of : EdgeList → List ℕ
    leafs_of t = map (λ x. node_or n t x (next t x 0)) (range_with_len 0 n)

    inners : EdgeList → List ℕ
    inners t = map (λ e. node_or n t (n + place t e) (next t e.u (suc e.rank))) (joins t)

    placed : (e : ListedEdge) → place s e ≡ place r e
    placed e = ap (λ (t : EdgeList). length (below t e.rank)) edges

    node : (i : ℕ) (o : Option ListedEdge) → node_or n s i o ≡ node_or n r i o
    node i None = refl
    node i (Some e) = ap (λ (k : ℕ). n + k) (placed e)

    leafs : leafs_of s ≡ leafs_of r
    leafs = map-agree (λ x. node_or n s x (next s x 0)) (λ x. node_or n r x (next r x 0)) 0 n (λ x low high.
        node x (next s x 0) ∙ ap (node_or n r x) (next-same s r x 0 hs hr same))

    one : (e : ListedEdge) → node_or n s (n + place s e) (next s e.u (suc e.rank)) ≡ node_or n r (n + place r e) (next r e.u (suc e.rank))
    one e = node (n + place s e) (next s e.u (suc e.rank)) ∙ ap (λ (k : ℕ). node_or n r (n + k) (next s e.u (suc e.rank))) (placed e)
        ∙ ap (node_or n r (n + place r e)) (next-same s r e.u (suc e.rank) hs hr same)

    inner : inners s ≡ inners r
    inner = ap (λ (f : ListedEdge → ℕ). map f (joins s)) (λ j e. one e j) ∙ ap (λ (t : EdgeList). map (λ e. node_or n r (n + place r e) (next r e.u (suc e.rank))) t) edges

-- sorted keys are in the order of persistence
pub sorted-order : (xs : List ℕ) (keys sorted : List (ℕ × ℕ)) → keys ≡ map (key (weighed xs)) (range_with_len 0 (length xs)) → IsPermutation keys sorted → sorted ≡ sorted_keys_of (weighed xs) → AreSorted xs sorted
sorted-order xs keys sorted made same is = record {
  one_each = long;
  order = subst (IsPersistenceOrder xs) (sym second) (record {
    one_each = length-map-range_with_len (number_at (weighed xs)) 0 (length xs);
    within = λ k d low.
        let hk : k < length xs = (let e = length-map-range_with_len (number_at (weighed xs)) 0 (length xs) in omega arith) in
        subst (λ (z : ℕ). z < length xs) (sym (get_or-map-range_with_len (number_at (weighed xs)) 0 (length xs) k k d hk (omega arith))) (number-below xs k hk);
    each = λ k low.
        let hk : k < length xs = (let e = length-map-range_with_len (number_at (weighed xs)) 0 (length xs) in omega arith) in
        ap (persistence_rank xs) (get_or-map-range_with_len (number_at (weighed xs)) 0 (length xs) k k 0 hk (omega arith)) ∙ persistence_rank-number xs k hk;
    back = λ i low. get_or-map-range_with_len (number_at (weighed xs)) 0 (length xs) (persistence_rank xs i) (persistence_rank xs i) 0 (persistence_rank-below xs i low) (omega arith) ∙ number-persistence_rank xs i low;
  });
}
  where
    long : length sorted ≡ length xs
    long = ap length is ∙ length-map-range_with_len (λ k. key (weighed xs) (number_at (weighed xs) k)) 0 (length (weighed xs).edges) ∙ weighed-length xs

    seconds : (a n : ℕ) → map (λ (k : ℕ × ℕ). k.1) (map (λ k. key (weighed xs) (number_at (weighed xs) k)) (range_with_len a n)) ≡ map (number_at (weighed xs)) (range_with_len a n)
    seconds a zero = refl
    seconds a (suc n) = ap (λ (t : List ℕ). number_at (weighed xs) a ∷ t) (seconds (a + 1) n)

    second : map (λ (k : ℕ × ℕ). k.1) sorted ≡ map (number_at (weighed xs)) (range_with_len 0 (length xs))
    second = ap (map (λ (k : ℕ × ℕ). k.1)) is ∙ seconds 0 (length (weighed xs).edges) ∙ ap (λ (n : ℕ). map (number_at (weighed xs)) (range_with_len 0 n)) (weighed-length xs)

-- the edge at a place of the list is the joining edge of that rank
pub listed-edge : (g : WeightedGraph) (p order : List ℕ) (list : List Ranked) → IsPersistenceOrder p order → list ≡ map (ranked_of g p) order → (k : ℕ) (e : ListedEdge) → k < length order → IsIn e (joins (ranked g)) → get_or order k 0 ≡ place (ranked g) e →
    edge_at list k ≡ by_persistence (ranked g) p e
listed-edge g p order list a made k e hk i at =
    ap (edge_from k) there ∙ same
  where
    edge_from : ℕ → Option Ranked → ListedEdge
    edge_from r o = record {
      rank = r;
      u = option_map_or (λ (x : Ranked). x.u) o 0;
      v = option_map_or (λ (x : Ranked). x.v) o 0;
      weight = option_map_or (λ (x : Ranked). x.altitude) o 0;
      number = option_map_or (λ (x : Ranked). x.edge) o 0;
    }

    m : IsMakerOf g (g.n + place (ranked g) e) e
    m = maker-of g e i

    found : (x : ℕ) × (slice_get order k ≡ Some x)
    found = slice_get-some order k hk

    is : found.0 ≡ place (ranked g) e
    is = sym (get_or_from_slice_get order k found.0 0 found.1) ∙ at

    there : slice_get list k ≡ Some (ranked_of g p (place (ranked g) e))
    there = ap (λ (xs : List Ranked). slice_get xs k) made ∙ slice_get-mapped (ranked_of g p) order k found.0 found.1 ∙ ap (λ (x : ℕ). Some (ranked_of g p x)) is

    its : k ≡ persistence_rank p (place (ranked g) e)
    its = sym (a.each k hk) ∙ ap (persistence_rank p) at

    same : edge_from k (Some (ranked_of g p (place (ranked g) e))) ≡ by_persistence (ranked g) p e
    same = λ j. record { rank = its j; u = m.first j; v = m.second j; weight = get_or p (place (ranked g) e) 0; number = m.number j }

-- the list has the edges of the list by persistence
pub listed-same : (g : WeightedGraph) (p order : List ℕ) (list : List Ranked) → length p ≡ length (joins (ranked g)) → IsPersistenceOrder p order → list ≡ map (ranked_of g p) order → IsListedBy g p (edges_of list)
listed-same g p order list long a made = record {
  on = λ f i.
      let at = edges-placed list f i in
      let hk : at.at < length order = (let low : at.at < length list = at.low in omega (arith, low, many)) in
      let k = at.at in
      let found = slice_get-some (joins s) (get_or order at.at 0) (let low = a.within at.at 0 hk in omega (arith, low, long)) in
      let e = joins-index s (AreApart-ranked g) (get_or order at.at 0) found.0 found.1 in
      subst (λ (x : ListedEdge). IsIn x (persistence_edges s p)) (sym (listed-edge g p order list a made at.at found.0 hk e.0 (sym e.1)) ∙ at.is) (map-in (by_persistence s p) found.0 (joins s) e.0);
  back = λ f i.
      let e = in-map (by_persistence s p) f (joins s) i in
      let low : place s e.0 < length p = omega (arith, place-low s (AreApart-ranked g) e.0 e.1.0, long) in
      let hk : persistence_rank p (place s e.0) < length order = omega (arith, persistence_rank-below p (place s e.0) low, a.one_each) in
      subst (λ (x : ListedEdge). IsIn x (edges_of list)) (listed-edge g p order list a made (persistence_rank p (place s e.0)) e.0 hk e.1.0 (a.back (place s e.0) low) ∙ e.1.1)
      (placed-edges list (persistence_rank p (place s e.0)) (omega (arith, hk, many)));
}
  where
    s : EdgeList
    s = ranked g

    many : length list ≡ length order
    many = ap length made ∙ length-map order (ranked_of g p)

-- and is one of which a tree can be made
pub listed-ranked : (g : WeightedGraph) (p order : List ℕ) (list : List Ranked) → 1 ≤ g.n → g.n ≤ 1048576 → length p ≤ 4194304 → IsPersistenceOrder p order → list ≡ map (ranked_of g p) order → All (IsRankedEdge g.n) list → IsRankedList g.n list
listed-ranked g p order list some' few small a made ends = record {
  some_vertex = some';
  vertices = few;
  small = omega (arith, many, a.one_each, small);
  ends = ends;
  rising = λ i j d le low.
      let hj : j < length order = omega (arith, low, many) in
      let hi : i < length order = omega arith in
      let ri = read i d hi in
      let rj = read j d hj in
      let up = persistence_rank-rises p (get_or order i 0) (get_or order j 0) (a.within i 0 hi) (a.within j 0 hj) (let ti = a.each i hi in let tj = a.each j hj in omega (arith, ti, tj, le)) in
      omega (arith, up, ap (λ (x : Ranked). x.altitude) ri, ap (λ (x : Ranked). x.altitude) rj);
}
  where
    many : length list ≡ length order
    many = ap length made ∙ length-map order (ranked_of g p)

    read : (k : ℕ) (d : Ranked) → k < length order → get_or list k d ≡ ranked_of g p (get_or order k 0)
    read k d hk = ap (λ (xs : List Ranked). get_or xs k d) made ∙ mapped (ranked_of g p) order k d hk
      where
        mapped : (f : ℕ → Ranked) (xs : List ℕ) (k : ℕ) (d : Ranked) → k < length xs → get_or (map f xs) k d ≡ f (get_or xs k 0)
        mapped f [] k d h = absurd (omega arith)
        mapped f (x ∷ xs) zero d h = refl
        mapped f (x ∷ xs) (suc k) d h = mapped f xs k d (omega arith)

-- one more edge of the list
pub listed-more : (g : WeightedGraph) (p : List ℕ) (keys : List (ℕ × ℕ)) (list new : List Ranked) (k : ℕ) (e : Ranked) → list ≡ map (λ j. ranked_of g p (get_or keys j (0, 0)).1) (range_with_len 0 k) → new ≡ list ++ e ∷ [] → e ≡ ranked_of g p (get_or keys k (0, 0)).1 →
    new ≡ map (λ j. ranked_of g p (get_or keys j (0, 0)).1) (range_with_len 0 (k + 1))
listed-more g p keys list new k e so_far made is =
    let f : ℕ → Ranked = λ j. ranked_of g p (get_or keys j (0, 0)).1 in
    made ∙ ap (λ (xs : List Ranked). xs ++ e ∷ []) so_far ∙ ap (λ (x : Ranked). map f (range_with_len 0 k) ++ x ∷ []) is
    ∙ sym (map-range_with_len_more f 0 k k (omega arith))

-- the whole list
pub listed-all : (g : WeightedGraph) (p : List ℕ) (keys : List (ℕ × ℕ)) (list : List Ranked) (k : ℕ) → 1 ≤ g.n → g.n ≤ 1048576 → length p ≤ 4194304 → length p ≡ length (joins (ranked g)) → AreSorted p keys → k ≡ length keys →
    list ≡ map (λ j. ranked_of g p (get_or keys j (0, 0)).1) (range_with_len 0 k) → All (IsRankedEdge g.n) list → IsListOf g p list
listed-all g p keys list k some' few small long a end made ends =
    let whole : list ≡ map (ranked_of g p) (map (λ (key : ℕ × ℕ). key.1) keys) = made ∙ ap (λ (n : ℕ). map (λ j. ranked_of g p (get_or keys j (0, 0)).1) (range_with_len 0 n)) end ∙ by_places keys in record {
      ranked_list = listed-ranked g p (map (λ (key : ℕ × ℕ). key.1) keys) list some' few small a.order whole ends;
      edges = listed-same g p (map (λ (key : ℕ × ℕ). key.1) keys) list long a.order whole;
    }
  where
    from_place : (before rest : List (ℕ × ℕ)) (k : ℕ) → k ≡ length before → map (λ j. ranked_of g p (get_or (before ++ rest) j (0, 0)).1) (range_with_len k (length rest)) ≡ map (ranked_of g p) (map (λ (key : ℕ × ℕ). key.1) rest)
    from_place before [] k at = refl
    from_place before (x ∷ rest) k at =
        let here : get_or (before ++ x ∷ rest) k (0, 0) ≡ x = read before x rest k at in
        let later : map (λ j. ranked_of g p (get_or (before ++ x ∷ rest) j (0, 0)).1) (range_with_len (k + 1) (length rest)) ≡ map (ranked_of g p) (map (λ (key : ℕ × ℕ). key.1) rest) =
        ap (λ (xs : List (ℕ × ℕ)). map (λ j. ranked_of g p (get_or xs j (0, 0)).1) (range_with_len (k + 1) (length rest))) (sym (append_assoc before (x ∷ []) rest))
        ∙ from_place (before ++ x ∷ []) rest (k + 1) (omega (arith, length-append before (x ∷ []))) in
        λ i. ranked_of g p (here i).1 ∷ later i
      where
        read : (before : List (ℕ × ℕ)) (x : ℕ × ℕ) (rest : List (ℕ × ℕ)) (k : ℕ) → k ≡ length before → get_or (before ++ x ∷ rest) k (0, 0) ≡ x
        read [] x rest zero at = refl
        read [] x rest (suc k) at = absurd (omega arith)
        read (y ∷ before) x rest zero at = absurd (omega arith)
        read (y ∷ before) x rest (suc k) at = read before x rest k (omega arith)

    by_places : (xs : List (ℕ × ℕ)) → map (λ j. ranked_of g p (get_or xs j (0, 0)).1) (range_with_len 0 (length xs)) ≡ map (ranked_of g p) (map (λ (key : ℕ × ℕ). key.1) xs)
    by_places xs = from_place [] xs 0 refl

-- the place of a key is one of the list's
pub key-within : (p : List ℕ) (keys : List (ℕ × ℕ)) (k : ℕ) → AreSorted p keys → k < length keys → (get_or keys k (0, 0)).1 < length p
key-within p keys k a low =
    subst (λ (z : ℕ). z < length p) (mapped keys k low) (a.order.within k 0 (let e = length-map keys (λ (key : ℕ × ℕ). key.1) in omega (arith, e, low)))
  where
    mapped : (xs : List (ℕ × ℕ)) (k : ℕ) → k < length xs → get_or (map (λ (key : ℕ × ℕ). key.1) xs) k 0 ≡ (get_or xs k (0, 0)).1
    mapped [] k h = absurd (omega arith)
    mapped (x ∷ xs) zero h = refl
    mapped (x ∷ xs) (suc k) h = mapped xs k (omega arith)

-- one more key
pub keys-next : (xs : List ℕ) (keys new : List (ℕ × ℕ)) (k v : ℕ) → keys ≡ map (key (weighed xs)) (range_with_len 0 k) → v ≡ get_or xs k 0 → new ≡ keys ++ ((v, k) ∷ []) → new ≡ map (key (weighed xs)) (range_with_len 0 (k + 1))
keys-next xs keys new k v so_far is made =
    made ∙ ap (λ (t : List (ℕ × ℕ)). t ++ (v, k) ∷ []) so_far
    ∙ ap (λ (x : ℕ). map (key (weighed xs)) (range_with_len 0 k) ++ (x, k) ∷ []) (is ∙ sym (weighed-weight xs k))
    ∙ sym (map-range_with_len_more (key (weighed xs)) 0 k k (omega arith))

-- what holds of each result that is Ok
pub told : {T E : Type 0} (r : Result T E) (P Q : T → Type 0) → ((v : T) → P v → Q v) → IfOk r P → IfOk r Q
told (Ok v) P Q f p = f v p
told (Err e) P Q f p = tt
