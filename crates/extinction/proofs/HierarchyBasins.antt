-- The hierarchical watershed of a graph over the basins of its watershed cut.
use Rattle.std.proofs.Common.{◌≡◌, ℕ, ◌-◌, ◌<◌, ◌≤◌, inl, inr, sym, ◌∙◌, ap, subst, arith, List, length, get_or}
use Rattle.std.proofs.lemmas.Bool.Decides.{eqb_tells}
use Rattle.std.proofs.lemmas.List.FromFn.{get_or-map-range_with_len, length-map-range_with_len}
use Rattle.hg_base.specs.Graph.{WeightedGraph, IsGraph, first_end, second_end}
use Rattle.hg_base.specs.Labels.{IsLabel}
use Rattle.hg_base.proofs.CountMore.{count_below-le}
use Rattle.edge_laws.specs.Edges.{EdgeList}
use Rattle.edge_laws.specs.Rank.{ranked}
use Rattle.edge_laws.proofs.Drops.{holds}
use Rattle.edge_laws.proofs.Ranked.{ends-within}
use Rattle.edge_laws.proofs.Walks.{Joined-joined}
use Rattle.edge_laws.specs.Saliency.{IsLeastJoining}
use Rattle.tree_laws.specs.Tree.{ParentTree, altitude, tree_of, IsLowestAbove}
use Rattle.tree_laws.proofs.Meeting.{lowest-weight}
use Rattle.partition_tree.specs.Paths.{ShareRoot}
use Rattle.watershed_cut.specs.Forest.{trees}
use Rattle.watershed_cut.specs.MinimumTests.{is_head, minimum_count}
use Rattle.watershed_cut.specs.Watershed.{tree_label, tree_labelling}
use Rattle.watershed_cut.proofs.TreeLabels.{tree-label_range, tree-label_same}
use Rattle.saliency.specs.Values.{IsLowestAltitude, AreLowestAltitudes}
use Rattle.extinction.specs.Basins.{AreGrounded, basin, IsBasinTree, BasinsShareRoots, IsBasinAltitude, AreBasinAltitudes}
use Rattle.extinction.specs.HierarchicalWatershed.{persistence_edges, hierarchical_of}
use Rattle.extinction.specs.Persistence.{persistences_of}
use Rattle.hg_base.specs.declared.kind.Kind.{Kind}
use Rattle.extinction.proofs.BasinLaws.{labels-joined, least-between, least-inside}
use Rattle.extinction.proofs.BasinTrees.{IsTreeList, joined-shares, lowest-altitude}
use Rattle.extinction.proofs.LevelZero.{ground, ground-trees, trees-ground, hierarchy-list}
use Rattle.extinction.proofs.SharingLemmas.{weight_above, hierarchy-light}
use Rattle.extinction.proofs.TreeFacts.{of-graph}

-- one label for each vertex
pub labels-long : (g : WeightedGraph) → length (tree_labelling g).labels ≡ g.n
labels-long g = length-map-range_with_len (tree_label g.n (ranked g)) 0 g.n

-- the label of a vertex
label-range : (g : WeightedGraph) → IsGraph g → (x : ℕ) → x < g.n → IsLabel (minimum_count g.n (ranked g)) (tree_label g.n (ranked g) x)
label-range g h x hx = let o = of-graph g h in tree-label_range g.n (ranked g) o.apart o.within x hx

-- and its basin
basin-is : (g : WeightedGraph) (x : ℕ) → x < g.n → basin (tree_labelling g) x ≡ tree_label g.n (ranked g) x - 1
basin-is g x hx = ap (λ (k : ℕ). k - 1) (get_or-map-range_with_len (tree_label g.n (ranked g)) 0 g.n x x 0 hx (omega arith))

basin-low : (g : WeightedGraph) → IsGraph g → (x : ℕ) → x < g.n → basin (tree_labelling g) x < minimum_count g.n (ranked g)
basin-low g h x hx = let r = label-range g h x hx in omega (arith, basin-is g x hx, r.positive, r.most)

-- there are basins, but no more than vertices
pub basins-some : (g : WeightedGraph) → IsGraph g → 1 ≤ minimum_count g.n (ranked g)
basins-some g h = let some = h.some_vertex in let r = label-range g h 0 (omega arith) in omega (arith, r.positive, r.most)

pub basins-few : (g : WeightedGraph) → IsGraph g → minimum_count g.n (ranked g) ≤ 1048576
basins-few g h = let few = h.vertices in omega (arith, count_below-le (is_head g.n (ranked g)) g.n)

-- the edges of persistence 0 join exactly the vertices of one basin
pub hierarchy-grounded : (g : WeightedGraph) → IsGraph g → (kind : Kind) → AreGrounded g.n (basin (tree_labelling g)) (persistence_edges (ranked g) (persistences_of g kind))
hierarchy-grounded g h kind = record {
  within = (hierarchy-list g h kind).within;
  level = λ x y hx hy.
      let s = ranked g in
      let n = g.n in
      let o = of-graph g h in
      let labels = tree-label_same n s o.apart o.within x y hx hy in
      let a = label-range g h x hx in
      let b = label-range g h y hy in (
        λ j. basin-is g x hx ∙ ap (λ (k : ℕ). k - 1) (labels.1 (Joined-joined (trees n s) x y (ground-trees g h kind x y (holds (ground g kind) x y j)))) ∙ sym (basin-is g y hy),
        λ same. Joined-joined (ground g kind) x y (trees-ground g h kind x y (holds (trees n s) x y (labels.0 (omega (arith, same, basin-is g x hx, basin-is g y hy, a.positive, b.positive))))),
      );
}

-- the list by persistence, and that of a tree over the basins, are lists of which a tree can be made
hierarchy-tree : (g : WeightedGraph) → IsGraph g → (kind : Kind) → IsTreeList g.n (persistence_edges (ranked g) (persistences_of g kind))
hierarchy-tree g h kind = let l = hierarchy-list g h kind in record { some = h.some_vertex; few = h.vertices; apart = l.apart; within = l.within; by_weight = l.by_weight }

basins-tree : (g : WeightedGraph) → IsGraph g → (kind : Kind) (t : ParentTree) (b : IsBasinTree g kind (tree_labelling g) t) → IsTreeList (minimum_count g.n (ranked g)) b.edges
basins-tree g h kind t b = record { some = basins-some g h; few = basins-few g h; apart = b.apart; within = b.within; by_weight = b.by_weight }

-- the basins of the ends of each edge are below one root
pub basins-share : (g : WeightedGraph) → IsGraph g → (kind : Kind) (t : ParentTree) → IsBasinTree g kind (tree_labelling g) t → BasinsShareRoots g (tree_labelling g) t
basins-share g h kind t b e low =
    let s = persistence_edges (ranked g) (persistences_of g kind) in
    let top = (weight_above s).0 in
    let ends = ends-within g h e low in
    subst (λ (u : ParentTree). ShareRoot u (basin (tree_labelling g) (first_end g e)) (basin (tree_labelling g) (second_end g e))) (sym b.tree)
    (joined-shares (minimum_count g.n (ranked g)) b.edges (basins-tree g h kind t b) top (basin (tree_labelling g) (first_end g e)) (basin (tree_labelling g) (second_end g e)) (basin-low g h (first_end g e) ends.0) (basin-low g h (second_end g e) ends.1)
    (labels-joined (basin (tree_labelling g)) s b.edges b.between top (first_end g e) (second_end g e) (hierarchy-light g kind e low)))

-- the altitude over the basins is that in the hierarchical watershed
value-lowest : (g : WeightedGraph) → IsGraph g → (kind : Kind) (t : ParentTree) → IsBasinTree g kind (tree_labelling g) t → (e v : ℕ) → e < length g.edges → IsBasinAltitude (tree_labelling g) t (first_end g e) (second_end g e) v →
    IsLowestAltitude (hierarchical_of g kind) (first_end g e) (second_end g e) v
value-lowest g h kind t b e v low at =
    elim (eqb_tells (basin (tree_labelling g) x) (basin (tree_labelling g) y)) [
      | inl same ↦ found v (subst (λ (k : ℕ). IsLeastJoining s x y k) (sym (at.inside same.1)) (least-inside g.n (basin (tree_labelling g)) s grounded x y ends.0 ends.1 same.1))
      | inr other ↦
          let i = at.between other.1 in
          let own = lowest-weight m b.edges b.apart b.by_weight (basin (tree_labelling g) x) (basin (tree_labelling g) y) i.0 (basin-low g h x ends.0) (basin-low g h y ends.1)
          (subst (λ (u : ParentTree). IsLowestAbove u (basin (tree_labelling g) x) (basin (tree_labelling g) y) i.0) b.tree i.1.0) in
          let its : altitude (tree_of m b.edges) i.0 ≡ v = ap (λ (u : ParentTree). altitude u i.0) (sym b.tree) ∙ i.1.1 in
          found v (subst (λ (k : ℕ). IsLeastJoining s x y k) its (least-between g.n (basin (tree_labelling g)) s b.edges grounded b.between x y (altitude (tree_of m b.edges) i.0) ends.0 ends.1 own))
    ]
  where
    s : EdgeList
    s = persistence_edges (ranked g) (persistences_of g kind)

    m : ℕ
    m = minimum_count g.n (ranked g)

    x : ℕ
    x = first_end g e

    y : ℕ
    y = second_end g e

    ends : (x < g.n) × (y < g.n)
    ends = ends-within g h e low

    grounded : AreGrounded g.n (basin (tree_labelling g)) s
    grounded = hierarchy-grounded g h kind

    share : ShareRoot (hierarchical_of g kind) x y
    share = joined-shares g.n s (hierarchy-tree g h kind) (weight_above s).0 x y ends.0 ends.1 (hierarchy-light g kind e low)

    found : (k : ℕ) → IsLeastJoining s x y k → IsLowestAltitude (hierarchical_of g kind) x y k
    found k least = lowest-altitude g.n s (hierarchy-tree g h kind) x y k ends.0 ends.1 share least

-- so for each edge
pub values-lowest : (g : WeightedGraph) → IsGraph g → (kind : Kind) (t : ParentTree) (values : List ℕ) → IsBasinTree g kind (tree_labelling g) t → AreBasinAltitudes g (tree_labelling g) t values → AreLowestAltitudes g (hierarchical_of g kind) values
values-lowest g h kind t values b a = record {
  one_each = a.one_each;
  each = λ e low. value-lowest g h kind t b e (get_or values e 0) low (a.each e low);
}
