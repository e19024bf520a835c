-- The areas, the altitudes and the energies of the nodes of a graph's tree.
use Rattle.std.proofs.Common.{◌≡◌, ℕ, ◌+◌, ◌*◌, ◌<◌, ◌≤◌, ◌^◌, inl, inr, ◌++◌, List, [], ◌∷◌, All, length, take, take_all, sym, ap, ◌∙◌, subst, arith}
use Rattle.std.specs.Prelude.{Some, slice_get}
use Rattle.std.specs.List.{count_by, range_with_len}
use Rattle.std.proofs.lemmas.Bool.{cases_lt}
use Rattle.std.proofs.lemmas.List.{get_or_past, take_more}
use Rattle.std.proofs.lemmas.List.Elements.{All-map}
use Rattle.std.proofs.lemmas.List.FromFn.{length-map-range_with_len, length-range_with_len}
use Rattle.std.proofs.lemmas.List.Sums.{count_by-le-length, length-filter, sum_by-le}
use Rattle.std.proofs.lemmas.Option.{get_or_from_slice_get, slice_get_within, unwrap_or-slice_get}
use Rattle.attributes.specs.Attributes.{AttributeLists, area, area_of, attributes_of, vertices_below}
use Rattle.attributes.proofs.LowFloors.{altitudes-small}
use Rattle.energy_cut.specs.Energies.{energies_of, node_energy}
use Rattle.energy_cut.specs.Regions.{RegionCut, energy_cut_of}
use Rattle.hg_base.specs.Graph.{WeightedGraph, IsGraph, AreLight}
use Rattle.tree_laws.specs.Levels.{is_above}
use Rattle.tree_laws.specs.Tree.{ParentTree, altitude, graph_tree}
use Rattle.partition_tree.specs.TreeLists.{nodes}
use Rattle.graph_hierarchy.specs.Hierarchies.{IsTreeOf}
use Rattle.higra_report.specs.Reports.{graph_energies, graph_energy_cut}

-- altitudes are weights
pub altitudes_low : (g : WeightedGraph) (t : ParentTree) → IsTreeOf g t → AreLight g.edges → (i : ℕ) → i < nodes t → altitude t i < 2 ^ 32
altitudes_low g t is light i h =
    subst (λ (u : ParentTree). altitude u i < 2 ^ 32) (sym is.same) (altitudes-small g light i (subst (λ (u : ParentTree). i < nodes u) is.same h))

-- there is an area for each node
pub areas_each : (g : WeightedGraph) (t : ParentTree) (lists : AttributeLists) → IsTreeOf g t → lists ≡ attributes_of g → length lists.areas ≡ nodes t
areas_each g t lists is same =
    ap (λ (l : AttributeLists). length l.areas) same
    ∙ length-map-range_with_len (λ i. area_of g (vertices_below (graph_tree g) i)) 0 (nodes (graph_tree g))
    ∙ ap nodes (sym is.same)

-- the areas up to the next node
pub areas_more : (xs : List ℕ) (i v : ℕ) (old new : List ℕ) → slice_get xs i ≡ Some v → old ≡ take i xs → new ≡ old ++ v ∷ [] → new ≡ take (i + 1) xs
areas_more xs i v old new at so_far more =
    more ∙ ap (λ (ys : List ℕ). ys ++ v ∷ []) so_far ∙ ap (λ (k : ℕ). take i xs ++ k ∷ []) (sym (get_or_from_slice_get xs i v 0 at)) ∙ sym (take_more xs i 0 (slice_get_within xs i v at))

-- and all of them
pub areas_all : (xs : List ℕ) (i : ℕ) (ys : List ℕ) → length xs ≤ i → ys ≡ take i xs → ys ≡ xs
areas_all xs i ys long so_far = so_far ∙ take_all i xs long

-- the area of a vertex is at most 4096
area-small : (g : WeightedGraph) → IsGraph g → (x : ℕ) → area g x ≤ 4096
area-small g is x =
    elim (cases_lt x (length g.areas)) [
      | inl low ↦ subst (λ (a : ℕ). a ≤ 4096) (sym (unwrap_or-slice_get g.areas x 0)) (is.small_areas x 0 low)
      | inr past ↦ (let none : area g x ≡ 0 = unwrap_or-slice_get g.areas x 0 ∙ get_or_past g.areas x 0 past in omega (arith, none))
    ]

-- so that of some of the vertices is at most 2 ^ 32
area_of-small : (g : WeightedGraph) → IsGraph g → (i : ℕ) → area_of g (vertices_below (graph_tree g) i) ≤ 2 ^ 32
area_of-small g is i =
    let bound : area_of g (vertices_below (graph_tree g) i) ≤ length (vertices_below (graph_tree g) i) * 4096 = sum_by-le (area g) 4096 (vertices_below (graph_tree g) i) (λ k d h. area-small g is _) in
    let some : length (vertices_below (graph_tree g) i) ≡ count_by (is_above (graph_tree g) i) (range_with_len 0 g.n) = length-filter (is_above (graph_tree g) i) (range_with_len 0 g.n) in
    let part : count_by (is_above (graph_tree g) i) (range_with_len 0 g.n) ≤ length (range_with_len 0 g.n) = count_by-le-length (is_above (graph_tree g) i) (range_with_len 0 g.n) in
    let all : length (range_with_len 0 g.n) ≡ g.n = length-range_with_len 0 g.n in
    let few : g.n ≤ 1048576 = is.vertices in
    omega (arith, bound, some, part, all, few)

-- the areas of the nodes are
pub areas_small : (g : WeightedGraph) (t : ParentTree) (lists : AttributeLists) (areas : List ℕ) → IsTreeOf g t → lists ≡ attributes_of g → areas ≡ lists.areas → All (λ (a : ℕ). a ≤ 2 ^ 32) areas
areas_small g t lists areas is own same =
    subst (All (λ (a : ℕ). a ≤ 2 ^ 32)) (sym (same ∙ ap (λ (l : AttributeLists). l.areas) own))
    (All-map (λ (a : ℕ). a ≤ 2 ^ 32) (λ i. area_of g (vertices_below (graph_tree g) i)) (range_with_len 0 (nodes (graph_tree g))) (λ k d h. area_of-small g is.graph _))

-- energies of the tree of a graph
pub energies_made : (g : WeightedGraph) (t : ParentTree) (lists : AttributeLists) (areas : List ℕ) (penalty : ℕ) (energies : List ℕ) → IsTreeOf g t → lists ≡ attributes_of g → areas ≡ lists.areas → energies ≡ energies_of t areas penalty
    → energies ≡ graph_energies g penalty
energies_made g t lists areas penalty energies is own same made =
    made ∙ ap (λ (u : ParentTree). energies_of u areas penalty) is.same ∙ ap (λ (xs : List ℕ). energies_of (graph_tree g) xs penalty) (same ∙ ap (λ (l : AttributeLists). l.areas) own)

-- there is one for each node
pub energies_each : (t : ParentTree) (areas : List ℕ) (penalty : ℕ) (energies : List ℕ) → energies ≡ energies_of t areas penalty → length energies ≡ nodes t
energies_each t areas penalty energies made = ap (λ (xs : List ℕ). length xs) made ∙ length-map-range_with_len (node_energy t areas penalty) 0 (nodes t)

-- the least cut of these energies
pub least_cut_is : (g : WeightedGraph) (t : ParentTree) (penalty : ℕ) (energies : List ℕ) (cut : RegionCut) → IsTreeOf g t → energies ≡ graph_energies g penalty → cut ≡ energy_cut_of t energies → cut ≡ graph_energy_cut g penalty
least_cut_is g t penalty energies cut is own made = made ∙ ap (λ (u : ParentTree). energy_cut_of u energies) is.same ∙ ap (λ (xs : List ℕ). energy_cut_of (graph_tree g) xs) own
