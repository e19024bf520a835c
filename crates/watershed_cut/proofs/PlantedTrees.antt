-- The watershed cut of a graph is one: its forest's edges by number and the minimum edges are its trees.
use Rattle.std.proofs.Common.{◌≡◌, ℕ, ◌+◌, ◌<◌, true, inl, inr, sym, subst, ◌∙◌, arith, length, map, Result, Ok, Err}
use Rattle.std.specs.Prelude.{◌↔◌, IfOk, filter}
use Rattle.std.proofs.lemmas.List.FromFn.{get_or-map-range_with_len, length-map-range_with_len}
use Rattle.edge_laws.specs.Edges.{ListedEdge, Joined}
use Rattle.hg_base.specs.Lists.{IsIn}
use Rattle.hg_base.specs.Graph.{WeightedGraph, IsGraph, first_end, second_end}
use Rattle.edge_laws.specs.Rank.{numbers, ranked}
use Rattle.hg_base.proofs.Lists.{IsIn-append, IsIn-append_back, IsIn-filter, IsIn-kept}
use Rattle.edge_laws.proofs.Drops.{holds}
use Rattle.edge_laws.proofs.Ranked.{AreApart-ranked, AreWithin-ranked}
use Rattle.edge_laws.proofs.Sets.{joined-among}
use Rattle.edge_laws.proofs.Walks.{Joined-joined}
use Rattle.watershed_cut.specs.Forest.{forest, is_forest, trees}
use Rattle.watershed_cut.specs.MinimumLabels.{numbered}
use Rattle.watershed_cut.specs.MinimumTests.{minimum_edges}
use Rattle.watershed_cut.specs.Rooted.{planted}
use Rattle.watershed_cut.specs.Watershed.{IsWatershed, WatershedCut, is_cut_edge, tree_label, watershed_of}
use Rattle.partition_tree.proofs.ListTests.{range-from, range-to}
use Rattle.watershed_cut.proofs.GraphForest.{forest-rooted, graph-forest}
use Rattle.watershed_cut.proofs.LeastForest.{forest-least}
use Rattle.watershed_cut.proofs.TreeLabels.{cut-between, tree-label_walk}

-- the edges with the forest's numbers are those of the trees
planted-in : (g : WeightedGraph) (e : ListedEdge) → IsIn e (planted g (forest g)) → IsIn e (trees g.n (ranked g))
planted-in g e i =
    elim (IsIn-append_back e (map (numbered g) (forest g)) (minimum_edges (ranked g)) i) as (λ _. IsIn e (trees g.n (ranked g))) [
      | inl own ↦ (let q = (graph-forest g).forest e own in
          IsIn-append e (filter (is_forest g.n (ranked g)) (ranked g)) (minimum_edges (ranked g)) (inl (IsIn-filter (is_forest g.n (ranked g)) e (ranked g) q.1 q.0)))
      | inr low ↦ IsIn-append e (filter (is_forest g.n (ranked g)) (ranked g)) (minimum_edges (ranked g)) (inr low)
    ]

in-planted : (g : WeightedGraph) (e : ListedEdge) → IsIn e (trees g.n (ranked g)) → IsIn e (planted g (forest g))
in-planted g e i =
    elim (IsIn-append_back e (filter (is_forest g.n (ranked g)) (ranked g)) (minimum_edges (ranked g)) i) as (λ _. IsIn e (planted g (forest g))) [
      | inl own ↦ (let q = IsIn-kept (is_forest g.n (ranked g)) e (ranked g) own in
          IsIn-append e (map (numbered g) (forest g)) (minimum_edges (ranked g)) (inl ((graph-forest g).all e q.1 q.0)))
      | inr low ↦ IsIn-append e (map (numbered g) (forest g)) (minimum_edges (ranked g)) (inr low)
    ]

-- so both join the same vertices
joined-trees : (g : WeightedGraph) (x y : ℕ) → Joined (planted g (forest g)) x y → Joined (trees g.n (ranked g)) x y
joined-trees g x y j = Joined-joined (trees g.n (ranked g)) x y (joined-among (planted g (forest g)) (trees g.n (ranked g)) x y (planted-in g) (holds (planted g (forest g)) x y j))

trees-joined : (g : WeightedGraph) (x y : ℕ) → Joined (trees g.n (ranked g)) x y → Joined (planted g (forest g)) x y
trees-joined g x y j = Joined-joined (planted g (forest g)) x y (joined-among (trees g.n (ranked g)) (planted g (forest g)) x y (in-planted g) (holds (trees g.n (ranked g)) x y j))

-- an edge of the cut is one whose ends lie in different trees
cut-test : (g : WeightedGraph) → IsGraph g → (e : ℕ) → e < length g.edges → (is_cut_edge g e ≡ true) ↔ (¬ Joined (planted g (forest g)) (first_end g e) (second_end g e))
cut-test g is e h = (
  λ c j. (cut-between g is e h).0 c (joined-trees g (first_end g e) (second_end g e) j),
  λ apart. (cut-between g is e h).1 (λ j. apart (trees-joined g (first_end g e) (second_end g e) j)),
)

-- the cut's numbers are those of these edges
cut-member : (g : WeightedGraph) → IsGraph g → (e : ℕ) → IsIn e (watershed_of g).cut ↔ ((e < length g.edges) × (¬ Joined (planted g (forest g)) (first_end g e) (second_end g e)))
cut-member g is e = (
  λ i. (let k = IsIn-kept (is_cut_edge g) e (numbers g) i in
      let high : e < 0 + length g.edges = (range-to 0 (length g.edges) e k.1).1 in
      let low : e < length g.edges = omega (arith, high) in
      (low, (cut-test g is e low).0 k.0)),
  λ p. (let low : e < length g.edges = p.0 in
      IsIn-filter (is_cut_edge g) e (numbers g) ((cut-test g is e low).1 p.1) (range-from 0 (length g.edges) e (omega arith) (omega (arith, low)))),
)

-- the watershed cut of a graph is one
pub watershed-is : (g : WeightedGraph) → IsGraph g → IsWatershed g (watershed_of g)
watershed-is g is =
    let within = AreWithin-ranked g is in record {
      rooted = forest-rooted g is;
      least = forest-least g is;
      one_label_each = length-map-range_with_len (tree_label g.n (ranked g)) 0 g.n;
      label = λ x y hx low j. (get_or-map-range_with_len (tree_label g.n (ranked g)) 0 g.n x x 0 hx (omega arith) ∙ tree-label_walk g.n (ranked g) (AreApart-ranked g) within x y low (joined-trees g x y j));
      cut = λ e. cut-member g is e;
    }

-- so what is made as a graph's watershed cut is one
pub watershed_made : {E : Type 0} (g : WeightedGraph) (r : Result WatershedCut E) → IsGraph g → IfOk r (λ w. w ≡ watershed_of g) → IfOk r (λ w. IsWatershed g w)
watershed_made g (Ok w) is same = subst (IsWatershed g) (sym same) (watershed-is g is)
watershed_made g (Err e) is same = tt
