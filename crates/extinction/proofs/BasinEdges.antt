-- The list of the edges between basins.
use Rattle.std.proofs.Common.{◌≡◌, ◌≢◌, ℕ, zero, suc, ◌+◌, ◌<◌, ◌≤◌, true, false, inl, inr, refl, sym, ◌∙◌, ap, subst, arith, List, [], ◌∷◌, ◌++◌, length, get_or, map, All}
use Rattle.std.specs.Prelude.{Option, Some, slice_get, filter, Contains}
use Rattle.std.specs.Option.{option_map_or}
use Rattle.std.specs.List.{range_with_len}
use Rattle.std.specs.List.Sorted.{IsPermutation, IsNonDecreasingBy}
use Rattle.std.proofs.lemmas.Bool.{and_from, not_from_false, ne_eqb}
use Rattle.std.proofs.lemmas.List.{map-append}
use Rattle.std.proofs.lemmas.List.Sorted.{All-permutation, Contains-permutation, IsPermutation-sym, length_permutation}
use Rattle.std.proofs.lemmas.Option.{slice_get-get_or}
use Rattle.hg_base.specs.Graph.{WeightedGraph}
use Rattle.hg_base.specs.Labels.{Labelling}
use Rattle.hg_base.specs.Lists.{IsIn}
use Rattle.hg_base.proofs.Lists.{slice_get-some, IsIn-filter, IsIn-kept}
use Rattle.edge_laws.specs.Edges.{ListedEdge, EdgeList, joins}
use Rattle.edge_laws.specs.Rank.{ranked}
use Rattle.edge_laws.specs.Saliency.{at_most}
use Rattle.edge_laws.proofs.Ranked.{AreApart-ranked}
use Rattle.edge_laws.proofs.Walks.{Joined-joined, joined-ends}
use Rattle.tree_laws.specs.Tree.{place}
use Rattle.tree_laws.proofs.Nodes.{joins-index}
use Rattle.partition_tree.specs.declared.list.Ranked.{Ranked}
use Rattle.partition_tree.specs.Ranked.{IsRankedEdge, edge_at, edges_of}
use Rattle.partition_tree.proofs.ListLemmas.{edges-placed, placed-edges, read-at}
use Rattle.partition_tree.proofs.ListTests.{range-to, range-from}
use Rattle.watershed_cut.proofs.MarkedNumbers.{filter_more, filter_same}
use Rattle.watershed_cut.proofs.MinimumByWeight.{at_most-from}
use Rattle.watershed_cut.proofs.NodeLabels.{IsMakerOf, maker-of}
use Rattle.watershed_cut.proofs.Star.{in-map, map-in}
use Rattle.extinction.specs.HierarchicalWatershed.{by_persistence, persistence_edges}
use Rattle.extinction.specs.Basins.{AreGrounded, IsRelabelled, AreBetween, basin, basin_edge, is_between, basin_edges, IsBasinList}
use Rattle.extinction.proofs.ByPersistence.{place-low}

-- one more inner node whose edge leads from basin to basin, and one whose doesn't
pub basin-more : (g : WeightedGraph) (l : Labelling) (p : List ℕ) (k : ℕ) (list new : List Ranked) (e : Ranked) → list ≡ basin_edges g l p k → is_between g l p k ≡ true → e ≡ basin_edge g l p k → new ≡ list ++ e ∷ [] → new ≡ basin_edges g l p (k + 1)
basin-more g l p k list new e so_far passes is pushed =
    let f : ℕ → Ranked = basin_edge g l p in
    let kept : List ℕ = filter (is_between g l p) (range_with_len 0 k) in
    pushed ∙ ap (λ (xs : List Ranked). xs ++ e ∷ []) so_far ∙ ap (λ (x : Ranked). map f kept ++ x ∷ []) is ∙ sym (map-append f kept (k ∷ []))
    ∙ ap (map f) (filter_more (is_between g l p) k kept (kept ++ k ∷ []) refl passes refl)

pub basin-same : (g : WeightedGraph) (l : Labelling) (p : List ℕ) (k : ℕ) (list : List Ranked) → list ≡ basin_edges g l p k → is_between g l p k ≡ false → list ≡ basin_edges g l p (k + 1)
basin-same g l p k list so_far fails = so_far ∙ ap (map (basin_edge g l p)) (filter_same (is_between g l p) k (filter (is_between g l p) (range_with_len 0 k)) refl fails)

-- two ways to say that an element is in a list
contains-in : {X : Type 0} (xs : List X) (x : X) → Contains xs x → IsIn x xs
contains-in [] x (k, low, at) = absurd (omega arith)
contains-in (y ∷ ys) x (zero, low, at) = inl at
contains-in (y ∷ ys) x (suc k, low, at) = inr (contains-in ys x (k, omega arith, at))

in-contains : {X : Type 0} (xs : List X) (x : X) → IsIn x xs → Contains xs x
in-contains [] x i = absurd i
in-contains (y ∷ ys) x (inl same) = (0, omega arith, same)
in-contains (y ∷ ys) x (inr i) = let c = in-contains ys x i in (suc c.0, (let low : c.0 < length ys = c.1 in omega arith), c.2)

-- what is read where an element stands
some-at : (list : List Ranked) (k : ℕ) (x : Ranked) → k < length list → get_or list k x ≡ x → slice_get list k ≡ Some x
some-at list k x low at = slice_get-get_or list k x low ∙ ap Some at

-- an edge between basins by another name of its place
by-place : (g : WeightedGraph) (l : Labelling) (p : List ℕ) (r : Ranked) (i k : ℕ) → basin_edge g l p i ≡ r → k ≡ i → r ≡ basin_edge g l p k
by-place g l p r i k is at = sym is ∙ ap (basin_edge g l p) (sym at)

-- the edge at a place of a list, where there stands the one that a joining edge is between basins
relabelled-at : (g : WeightedGraph) (l : Labelling) (p : List ℕ) (list : List Ranked) (k : ℕ) (r : Ranked) (e : ListedEdge) → IsIn e (joins (ranked g)) → slice_get list k ≡ Some r → r ≡ basin_edge g l p (place (ranked g) e) →
    IsRelabelled (basin l) (by_persistence (ranked g) p e) (edge_at list k)
relabelled-at g l p list k r e i at is = record {
  first = ap (λ (o : Option Ranked). option_map_or (λ (x : Ranked). x.u) o 0) at ∙ ap (λ (x : Ranked). x.u) is ∙ ap (basin l) m.first;
  second = ap (λ (o : Option Ranked). option_map_or (λ (x : Ranked). x.v) o 0) at ∙ ap (λ (x : Ranked). x.v) is ∙ ap (basin l) m.second;
  weight = ap (λ (o : Option Ranked). option_map_or (λ (x : Ranked). x.altitude) o 0) at ∙ ap (λ (x : Ranked). x.altitude) is;
}
  where
    m : IsMakerOf g (g.n + place (ranked g) e) e
    m = maker-of g e i

-- a joining edge whose ends are in different basins is one of those between basins: its persistence isn't 0
passes-between : (g : WeightedGraph) (l : Labelling) (p : List ℕ) → AreGrounded g.n (basin l) (persistence_edges (ranked g) p) → (e : ListedEdge) → IsIn e (joins (ranked g)) → basin l e.u ≢ basin l e.v → is_between g l p (place (ranked g) e) ≡ true
passes-between g l p a e i other =
    and_from _ _ (not_from_false _ (ne_eqb (get_or p (place (ranked g) e) 0) 0 positive)) (not_from_false _ (ne_eqb _ _ (λ same. other (sym (ap (basin l) m.first) ∙ same ∙ ap (basin l) m.second))))
  where
    s : EdgeList
    s = persistence_edges (ranked g) p

    f : ListedEdge
    f = by_persistence (ranked g) p e

    member : IsIn f s
    member = map-in (by_persistence (ranked g) p) e (joins (ranked g)) i

    m : IsMakerOf g (g.n + place (ranked g) e) e
    m = maker-of g e i

    positive : get_or p (place (ranked g) e) 0 ≢ 0
    positive none =
        let inside = a.within f member in
        other ((a.level e.u e.v inside.0 inside.1).0 (Joined-joined (at_most s 0) e.u e.v (joined-ends (at_most s 0) f (at_most-from s 0 f member (omega arith)))))

-- the sorted list has the edges between basins of the list by persistence
list-between : (g : WeightedGraph) (l : Labelling) (p : List ℕ) (list sorted : List Ranked) → length p ≡ length (joins (ranked g)) → AreGrounded g.n (basin l) (persistence_edges (ranked g) p) → list ≡ basin_edges g l p (length p) → IsPermutation list sorted →
    AreBetween (basin l) (persistence_edges (ranked g) p) (edges_of sorted)
list-between g l p list sorted long a made moved = record {
  on = λ e i other.
      let j = in-map (by_persistence s p) e (joins s) i in
      let low : place s j.0 < length p = omega (arith, place-low s (AreApart-ranked g) j.0 j.1.0, long) in
      let apart : basin l j.0.u ≢ basin l j.0.v = subst (λ (x : ListedEdge). basin l x.u ≢ basin l x.v) (sym j.1.1) other in
      let x = basin_edge g l p (place s j.0) in
      let kept = IsIn-filter (is_between g l p) (place s j.0) (range_with_len 0 (length p)) (passes-between g l p a j.0 j.1.0 apart) (range-from 0 (length p) (place s j.0) (omega arith) (omega arith)) in
      let found = Contains-permutation list sorted x moved (in-contains list x (subst (IsIn x) (sym made) (map-in (basin_edge g l p) (place s j.0) (filter (is_between g l p) (range_with_len 0 (length p))) kept))) in
      let at : slice_get sorted found.0 ≡ Some x = some-at sorted found.0 x found.1 found.2 in
      (edge_at sorted found.0, (placed-edges sorted found.0 found.1, subst (λ (y : ListedEdge). IsRelabelled (basin l) y (edge_at sorted found.0)) j.1.1 (relabelled-at g l p sorted found.0 x j.0 j.1.0 at refl)));
  back = λ f i.
      let at = edges-placed sorted f i in
      let r = read-at sorted at.at at.low in
      let there = contains-in list r.0 (Contains-permutation sorted list r.0 (IsPermutation-sym list sorted moved) (at.at, at.low, r.1.or_else)) in
      let j = in-map (basin_edge g l p) r.0 (filter (is_between g l p) (range_with_len 0 (length p))) (subst (IsIn r.0) made there) in
      let low = (range-to 0 (length p) j.0 (IsIn-kept (is_between g l p) j.0 (range_with_len 0 (length p)) j.1.0).1).1 in
      let found = slice_get-some (joins s) j.0 (omega (arith, low, long)) in
      let e = joins-index s (AreApart-ranked g) j.0 found.0 found.1 in
      let is = by-place g l p r.0 j.0 (place s found.0) j.1.1 e.1 in
      (by_persistence s p found.0, (map-in (by_persistence s p) found.0 (joins s) e.0, subst (IsRelabelled (basin l) (by_persistence s p found.0)) at.is (relabelled-at g l p sorted at.at r.0 found.0 e.0 r.1.value is)));
}
  where
    s : EdgeList
    s = ranked g

-- it is a list of which a tree can be made
pub basin-list : (g : WeightedGraph) (l : Labelling) (p : List ℕ) (list sorted : List Ranked) → 1 ≤ l.count → l.count ≤ 1048576 → length p ≤ 4194304 → length p ≡ length (joins (ranked g)) → AreGrounded g.n (basin l) (persistence_edges (ranked g) p) →
    list ≡ basin_edges g l p (length p) → All (IsRankedEdge l.count) list → length list ≤ length p → IsPermutation list sorted → IsNonDecreasingBy (λ (e : Ranked). e.altitude) sorted → IsBasinList g l p sorted
basin-list g l p list sorted some' few small long a made ends short moved rising = record {
  ranked_list = record {
    some_vertex = some';
    vertices = few;
    small = (let same = length_permutation list sorted moved in omega (arith, same, short, small));
    ends = All-permutation (IsRankedEdge l.count) list sorted moved ends;
    rising = rising;
  };
  between = list-between g l p list sorted long a made moved;
}
