-- What the passes give is the watershed cut of the graph.
use Rattle.std.proofs.Common.{◌≡◌, ℕ, ◌+◌, ◌<◌, ◌≤◌, Bool, true, false, inl, inr, refl, sym, ◌∙◌, subst, ap, arith, List, length, get_or, map}
use Rattle.std.specs.Prelude.{◌==◌, not, ◌&&◌, filter, nat_lt}
use Rattle.std.specs.List.{range_with_len}
use Rattle.std.proofs.lemmas.Bool.{cases_Bool, and_parts, cond-true, cond-false, ne_eqb, eq-eqb}
use Rattle.std.proofs.lemmas.List.FromFn.{length-map-range_with_len, get_or-map-range_with_len}
use Rattle.hg_base.specs.Graph.{WeightedGraph, IsGraph, first_end, second_end}
use Rattle.edge_laws.specs.Edges.{ListedEdge, EdgeList, AreApart, AreWithin, joins, is_joining}
use Rattle.hg_base.specs.Lists.{IsIn}
use Rattle.hg_base.specs.Labels.{Labelling, IsLabel, IsLabelling}
use Rattle.edge_laws.specs.Rank.{numbers, ranked}
use Rattle.tree_laws.specs.Tree.{ParentTree, graph_tree, place}
use Rattle.tree_laws.specs.Zones.{maker}
use Rattle.tree_laws.proofs.FrontOnce.{leaf_or_made}
use Rattle.hg_base.proofs.Leasts.{map-agree}
use Rattle.edge_laws.proofs.Ranked.{AreApart-ranked, AreWithin-ranked, IsIn-ranked}
use Rattle.edge_laws.proofs.Sets.{same_test, IsIn-joins, IsIn-joins_kept}
use Rattle.tree_laws.proofs.TreeNodes.{made-within}
use Rattle.partition_tree.specs.TreeLists.{IsWellFormed}
use Rattle.watershed_cut.specs.MinimumTests.{is_minimum, minimum_count, vertex_label, edge_label}
use Rattle.watershed_cut.specs.MinimumLabels.{LabelledMinima, numbered, minima_of}
use Rattle.watershed_cut.specs.Forest.{reaches, is_forest, forest}
use Rattle.watershed_cut.specs.Plateaus.{HasTwoEnds}
use Rattle.watershed_cut.specs.NearestHolders.{AreNearestHolders, makes_forest, maker_first, maker_second, AreChosen, AreNodeLabels, edges_cut_by}
use Rattle.watershed_cut.specs.Watershed.{WatershedCut, tree_label, tree_labelling, is_cut_edge, watershed_of}
use Rattle.watershed_cut.proofs.MarkedNumbers.{filter_agree-range}
use Rattle.watershed_cut.proofs.GraphForest.{ranked-numbered}
use Rattle.watershed_cut.proofs.LabelLemmas.{ranked-ends}
use Rattle.watershed_cut.proofs.MinimumWalks.{minimum-to, in_minimum-from}
use Rattle.watershed_cut.proofs.NodeLabels.{IsSetting, IsMakerOf, maker-of, near-before, node-label}
use Rattle.watershed_cut.proofs.TreeLabels.{label-range, tree-label_range}

-- an edge has the label 0 exactly where it is no minimum edge
edge-zero : (n : ℕ) (s : EdgeList) → AreWithin n s → (e : ListedEdge) → IsIn e s → (edge_label n s e == 0) ≡ not (is_minimum s e)
edge-zero n s within e i = elim (cases_Bool (is_minimum s e)) [
  | inl least ↦
      let m = minimum-to s e i least in
      let range = label-range n s e.u (in_minimum-from n s e.u (record { vertex = (within e i).0; either = inr (e, (m, inl refl)) })) in
      let is : edge_label n s e ≡ vertex_label n s e.u = cond-true (is_minimum s e) _ _ least in
      let some : 1 ≤ vertex_label n s e.u = range.positive in
      ne_eqb (edge_label n s e) 0 (λ z. omega (arith, z, is, some)) ∙ ap not (sym least)
  | inr other ↦
      let is : edge_label n s e ≡ 0 = cond-false (is_minimum s e) _ _ other in
      eq-eqb (edge_label n s e) 0 is ∙ ap not (sym other)
]

-- the labels of the edges
abbrev AreEdgeLabels : WeightedGraph → List ℕ → Type 0
AreEdgeLabels g edges = (e : ℕ) → e < length g.edges → get_or edges e 0 ≡ edge_label g.n (ranked g) (numbered g e)

-- the test at a node is that of the edge that made it
forest-test : (g : WeightedGraph) (vertices near labels edges : List ℕ) → IsSetting g vertices near labels → AreEdgeLabels g edges → (e : ListedEdge) → IsIn e (joins (ranked g)) →
    makes_forest g (graph_tree g) near edges (g.n + place (ranked g) e) ≡ is_forest g.n (ranked g) e
forest-test g vertices near labels edges set' are e i =
    ap (λ (b : Bool). b && not (nat_lt (get_or near (maker_first g (graph_tree g) q) 0) q && nat_lt (get_or near (maker_second g (graph_tree g) q) 0) q)) label
    ∙ ap (λ (b : Bool). not (is_minimum s e) && not (b && nat_lt (get_or near (maker_second g (graph_tree g) q) 0) q)) (ap (λ (k : ℕ). nat_lt (get_or near k 0) q) m.first ∙ near-before g vertices near labels set' e i e.u ends.0)
    ∙ ap (λ (b : Bool). not (is_minimum s e) && not (reaches g.n s e.rank e.u && b)) (ap (λ (k : ℕ). nat_lt (get_or near k 0) q) m.second ∙ near-before g vertices near labels set' e i e.v ends.1)
    ∙ ap (λ (b : Bool). b && (not (is_minimum s e) && not (reaches g.n s e.rank e.u && reaches g.n s e.rank e.v))) (sym kept.1)
  where
    s : EdgeList
    s = ranked g

    q : ℕ
    q = g.n + place (ranked g) e

    m : IsMakerOf g q e
    m = maker-of g e i

    kept : IsIn e s × (is_joining s e ≡ true)
    kept = IsIn-joins_kept s e i

    ends : (e.u < g.n) × (e.v < g.n)
    ends = set'.within e kept.0

    label : (get_or edges (maker (graph_tree g) q) 0 == 0) ≡ not (is_minimum s e)
    label =
        let r = ranked-numbered g e kept.0 in
        let number : e.number ≡ r.0 = sym (ap (λ (x : ListedEdge). x.number) r.1.1) in
        let at : get_or edges (maker (graph_tree g) q) 0 ≡ edge_label g.n s e = ap (λ (k : ℕ). get_or edges k 0) (m.number ∙ number) ∙ are r.0 r.1.0 ∙ ap (edge_label g.n s) r.1.1 in
        ap (λ (k : ℕ). k == 0) at ∙ edge-zero g.n s set'.within e kept.0

-- the chosen edges are those of the forest
chosen-test : (g : WeightedGraph) (vertices near labels edges : List ℕ) (chosen : List Bool) → IsSetting g vertices near labels → AreEdgeLabels g edges → AreChosen g (graph_tree g) near edges chosen → (e : ℕ) → e < length g.edges →
    get_or chosen e false ≡ is_forest g.n (ranked g) (numbered g e)
chosen-test g vertices near labels edges chosen set' are c e he = same_test (get_or chosen e false) (is_forest g.n s own)
    (λ t.
    let k = c.sound e t in
    elim (leaf_or_made g.n s h k.0 k.1.1.0) [
      | inl leaf ↦ absurd (let inner : g.n ≤ k.0 = k.1.0 in omega arith)
      | inr made ↦
          let r = ranked-numbered g made.0 (IsIn-joins_kept s made.0 made.1.0).0 in
          let m = maker-of g made.0 made.1.0 in
          let number : made.0.number ≡ r.0 = sym (ap (λ (x : ListedEdge). x.number) r.1.1) in
          let one : r.0 ≡ e = sym number ∙ sym m.number ∙ ap (maker (graph_tree g)) made.1.1 ∙ k.1.1.1.1 in
          let own_is : own ≡ made.0 = ap (numbered g) (sym one) ∙ r.1.1 in
          ap (is_forest g.n s) own_is ∙ sym (forest-test g vertices near labels edges set' are made.0 made.1.0) ∙ ap (makes_forest g (graph_tree g) near edges) made.1.1 ∙ k.1.1.1.0
    ])
    (λ f.
    let i = IsIn-joins s own (IsIn-ranked g e he) (and_parts _ _ f).0 in
    let m = maker-of g own i in
    ap (λ (k : ℕ). get_or chosen k false) (sym m.number)
    ∙ c.complete (g.n + place s own) (omega arith) (made-within g.n s h own i) (forest-test g vertices near labels edges set' are own i ∙ f))
  where
    s : EdgeList
    s = ranked g

    h : AreApart (ranked g)
    h = AreApart-ranked g

    own : ListedEdge
    own = numbered g e

-- labels of vertices and their number are those of the graph's watershed cut
pub record AreTreeLabels (g : WeightedGraph) (labels : List ℕ) (count : ℕ) : Type 0 where
  pub fit : IsLabelling (record { labels = labels; count = count })
  pub list : labels ≡ map (tree_label g.n (ranked g)) (range_with_len 0 g.n)
  pub result : record { labels = labels; count = count } ≡ tree_labelling g

-- what the passes gave that find the labels
pub record AreLabelsFound (g : WeightedGraph) (t : ParentTree) (minima : LabelledMinima) (near labels nodes : List ℕ) : Type 0 where
  pub tree : t ≡ graph_tree g
  pub of_graph : minima ≡ minima_of g
  pub some : 1 ≤ g.n
  pub few : g.n ≤ 1048576
  pub within : AreWithin g.n (ranked g)
  pub nearest : AreNearestHolders t minima.vertices near
  pub inner : AreNodeLabels g t minima.vertices near nodes
  pub outer : labels ≡ map (λ x. get_or nodes (get_or near x 0) 0) (range_with_len 0 t.leaves)

-- the lists of the passes are those of the graph
label-setting : (g : WeightedGraph) (t : ParentTree) (minima : LabelledMinima) (near labels nodes : List ℕ) → AreLabelsFound g t minima near labels nodes → IsSetting g (minima_of g).vertices near nodes
label-setting g t minima near labels nodes f = record {
  within = f.within;
  labelled = λ x h. get_or-map-range_with_len (vertex_label g.n (ranked g)) 0 g.n x x 0 h (omega arith);
  nearest = subst (λ (m : LabelledMinima). AreNearestHolders (graph_tree g) m.vertices near) f.of_graph (subst (λ (u : ParentTree). AreNearestHolders u minima.vertices near) f.tree f.nearest);
  nodes = subst (λ (m : LabelledMinima). AreNodeLabels g (graph_tree g) m.vertices near nodes) f.of_graph (subst (λ (u : ParentTree). AreNodeLabels g u minima.vertices near nodes) f.tree f.inner);
}

-- they give the labels of the watershed cut
pub labels-made : (g : WeightedGraph) (t : ParentTree) (minima : LabelledMinima) (near labels nodes : List ℕ) (count : ℕ) → count ≡ minima.count → AreLabelsFound g t minima near labels nodes → AreTreeLabels g labels count
labels-made g t minima near labels nodes count counted f = record {
  fit = subst IsLabelling (sym labelled) fits;
  list = labels-are;
  result = labelled;
}
  where
    s : EdgeList
    s = ranked g

    labels-are : labels ≡ map (tree_label g.n s) (range_with_len 0 g.n)
    labels-are =
        f.outer ∙ ap (λ (u : ParentTree). map (λ x. get_or nodes (get_or near x 0) 0) (range_with_len 0 u.leaves)) f.tree
        ∙ map-agree (λ x. get_or nodes (get_or near x 0) 0) (tree_label g.n s) 0 g.n (λ x low h. node-label g (minima_of g).vertices near nodes (label-setting g t minima near labels nodes f) x (omega arith))

    labelled : record { labels = labels; count = count } ≡ tree_labelling g
    labelled =
        let with_list : List ℕ → Labelling = λ l. record { labels = l; count = count } in
        let with_count : ℕ → Labelling = λ c. record { labels = map (tree_label g.n s) (range_with_len 0 g.n); count = c } in
        ap with_list labels-are ∙ ap with_count (counted ∙ ap (λ (m : LabelledMinima). m.count) f.of_graph)

    fits : IsLabelling (tree_labelling g)
    fits =
        let long : length (tree_labelling g).labels ≡ g.n = length-map-range_with_len (tree_label g.n s) 0 g.n in record {
          some = (let some = f.some in omega (arith, long, some));
          few = (let few = f.few in omega (arith, long, few));
          each = λ k d h.
              let low : k < g.n = omega arith in
              subst (IsLabel (minimum_count g.n s)) (sym (get_or-map-range_with_len (tree_label g.n s) 0 g.n k k d low (omega arith))) (tree-label_range g.n s (AreApart-ranked g) f.within k low);
        }

-- what the passes gave
pub record AreFound (g : WeightedGraph) (t : ParentTree) (minima : LabelledMinima) (near labels nodes forest' cut : List ℕ) (chosen : List Bool) : Type 0 where
  pub tree : t ≡ graph_tree g
  pub of_graph : minima ≡ minima_of g
  pub some : 1 ≤ g.n
  pub few : g.n ≤ 1048576
  pub nearest : AreNearestHolders t minima.vertices near
  pub picked : AreChosen g t near minima.edges chosen
  pub inner : AreNodeLabels g t minima.vertices near nodes
  pub outer : labels ≡ map (λ x. get_or nodes (get_or near x 0) 0) (range_with_len 0 t.leaves)
  pub kept : forest' ≡ filter (λ e. get_or chosen e false) (range_with_len 0 (length chosen))
  pub ends : (e : ℕ) → e < length g.edges → HasTwoEnds g e
  pub between : cut ≡ edges_cut_by g labels

-- labels, forest and cut of the graph's watershed, which are a labelling
pub record IsWatershedOf (g : WeightedGraph) (labels forest' cut : List ℕ) (count : ℕ) : Type 0 where
  pub fit : IsLabelling (record { labels = labels; count = count })
  pub result : record { labels = record { labels = labels; count = count }; cut = cut; forest = forest' } ≡ watershed_of g

pub watershed-made : (g : WeightedGraph) (t : ParentTree) (minima : LabelledMinima) (near labels nodes forest' cut : List ℕ) (chosen : List Bool) (count : ℕ) → count ≡ minima.count → AreFound g t minima near labels nodes forest' cut chosen → IsWatershedOf g labels forest' cut count
watershed-made g t minima near labels nodes forest' cut chosen count counted f = record {
  fit = own.fit;
  result =
      let with_labels : Labelling → WatershedCut = λ l. record { labels = l; cut = cut; forest = forest' } in
      let with_cut : List ℕ → WatershedCut = λ c. record { labels = tree_labelling g; cut = c; forest = forest' } in
      let with_forest : List ℕ → WatershedCut = λ l. record { labels = tree_labelling g; cut = filter (is_cut_edge g) (numbers g); forest = l } in
      ap with_labels own.result ∙ ap with_cut cut_is ∙ ap with_forest forest_is;
}
  where
    s : EdgeList
    s = ranked g

    vertices : List ℕ
    vertices = (minima_of g).vertices

    within : AreWithin g.n s
    within e i = (let r = ranked-ends g f.ends e i in (let h : first_end g r.0 < g.n = r.1.0.first in omega (arith, h, r.1.1.0), let h : second_end g r.0 < g.n = r.1.0.second in omega (arith, h, r.1.1.1)))

    found : AreLabelsFound g t minima near labels nodes
    found = record {
      tree = f.tree;
      of_graph = f.of_graph;
      some = f.some;
      few = f.few;
      within = within;
      nearest = f.nearest;
      inner = f.inner;
      outer = f.outer;
    }

    own : AreTreeLabels g labels count
    own = labels-made g t minima near labels nodes count counted found

    set' : IsSetting g vertices near nodes
    set' = label-setting g t minima near labels nodes found

    picked : AreChosen g (graph_tree g) near (minima_of g).edges chosen
    picked = subst (λ (m : LabelledMinima). AreChosen g (graph_tree g) near m.edges chosen) f.of_graph (subst (λ (u : ParentTree). AreChosen g u near minima.edges chosen) f.tree f.picked)

    edge-labels : AreEdgeLabels g (minima_of g).edges
    edge-labels e h = get_or-map-range_with_len (λ d. edge_label g.n s (numbered g d)) 0 (length g.edges) e e 0 h (omega arith)

    label-at : (x : ℕ) → x < g.n → get_or labels x 0 ≡ tree_label g.n s x
    label-at x h = ap (λ (xs : List ℕ). get_or xs x 0) own.list ∙ get_or-map-range_with_len (tree_label g.n s) 0 g.n x x 0 h (omega arith)

    cut_is : cut ≡ filter (is_cut_edge g) (numbers g)
    cut_is = f.between ∙ filter_agree-range (λ e. not (get_or labels (first_end g e) 0 == get_or labels (second_end g e) 0)) (is_cut_edge g) 0 (length g.edges)
        (λ e low h.
        let two = f.ends e (omega arith) in
        ap (λ (k : ℕ). not (k == get_or labels (second_end g e) 0)) (label-at (first_end g e) two.first) ∙ ap (λ (k : ℕ). not (tree_label g.n s (first_end g e) == k)) (label-at (second_end g e) two.second))

    forest_is : forest' ≡ forest g
    forest_is =
        f.kept ∙ ap (λ (k : ℕ). filter (λ e. get_or chosen e false) (range_with_len 0 k)) picked.one_each
        ∙ filter_agree-range (λ e. get_or chosen e false) (λ e. is_forest g.n s (numbered g e)) 0 (length g.edges)
        (λ e low h. chosen-test g vertices near nodes (minima_of g).edges chosen set' edge-labels picked e (omega arith))

-- as many labels of minima as vertices and edges
pub minima-lengths : (g : WeightedGraph) (t : ParentTree) (minima : LabelledMinima) → t ≡ graph_tree g → minima ≡ minima_of g → (length minima.vertices ≡ t.leaves) × (length minima.edges ≡ length g.edges)
minima-lengths g t minima same of_graph = (
  ap (λ (m : LabelledMinima). length m.vertices) of_graph ∙ length-map-range_with_len (vertex_label g.n (ranked g)) 0 g.n ∙ sym (ap (λ (u : ParentTree). u.leaves) same),
  ap (λ (m : LabelledMinima). length m.edges) of_graph ∙ length-map-range_with_len (λ e. edge_label g.n (ranked g) (numbered g e)) 0 (length g.edges),
)

-- the labels alone, of the slice that was handed over
pub labels-found : (g : WeightedGraph) (t : ParentTree) (minima : LabelledMinima) (near part labels : List ℕ) (count : ℕ) → IsGraph g → t ≡ graph_tree g → minima ≡ minima_of g →
    AreNearestHolders t minima.vertices near → part ≡ near → ((nodes : List ℕ) × (AreNodeLabels g t minima.vertices part nodes × (labels ≡ map (λ x. get_or nodes (get_or part x 0) 0) (range_with_len 0 t.leaves)))) →
    count ≡ minima.count → AreTreeLabels g labels count
labels-found g t minima near part labels count is same of_graph nearest one inner counted = labels-made g t minima near labels inner.0 count counted (record {
  tree = same;
  of_graph = of_graph;
  some = is.some_vertex;
  few = is.vertices;
  within = AreWithin-ranked g is;
  nearest = nearest;
  inner = subst (λ (xs : List ℕ). AreNodeLabels g t minima.vertices xs inner.0) one inner.1.0;
  outer = inner.1.1 ∙ ap (λ (xs : List ℕ). map (λ x. get_or inner.0 (get_or xs x 0) 0) (range_with_len 0 t.leaves)) one;
})

-- the same of the slices that were handed over
pub watershed-found : (g : WeightedGraph) (t : ParentTree) (minima : LabelledMinima) (near part third labels fourth forest' cut : List ℕ) (chosen second : List Bool) (count : ℕ) → t ≡ graph_tree g → minima ≡ minima_of g → IsWellFormed t →
    AreNearestHolders t minima.vertices near → part ≡ near → AreChosen g t part minima.edges chosen → second ≡ chosen → forest' ≡ filter (λ e. get_or second e false) (range_with_len 0 (length second)) →
    third ≡ near → ((nodes : List ℕ) × (AreNodeLabels g t minima.vertices third nodes × (labels ≡ map (λ x. get_or nodes (get_or third x 0) 0) (range_with_len 0 t.leaves)))) →
    fourth ≡ labels → ((e : ℕ) → e < length g.edges → HasTwoEnds g e) → cut ≡ edges_cut_by g fourth → count ≡ minima.count → IsWatershedOf g labels forest' cut count
watershed-found g t minima near part third labels fourth forest' cut chosen second count same of_graph f nearest one picked two kept three inner four ends between counted =
    let leaves : t.leaves ≡ g.n = ap (λ (u : ParentTree). u.leaves) same in
    watershed-made g t minima near labels inner.0 forest' cut chosen count counted (record {
      tree = same;
      of_graph = of_graph;
      some = (let some = f.some_leaf in omega (arith, some, leaves));
      few = (let few = f.few_leaves in omega (arith, few, leaves));
      nearest = nearest;
      picked = subst (λ (xs : List ℕ). AreChosen g t xs minima.edges chosen) one picked;
      inner = subst (λ (xs : List ℕ). AreNodeLabels g t minima.vertices xs inner.0) three inner.1.0;
      outer = inner.1.1 ∙ ap (λ (xs : List ℕ). map (λ x. get_or inner.0 (get_or xs x 0) 0) (range_with_len 0 t.leaves)) three;
      kept = kept ∙ ap (λ (xs : List Bool). filter (λ e. get_or xs e false) (range_with_len 0 (length xs))) two;
      ends = ends;
      between = between ∙ ap (edges_cut_by g) four;
    })
