-- A side that holds a minimum has a positive attribute, of each kind.
use Rattle.std.proofs.Common.{◌≡◌, ◌≢◌, ℕ, zero, suc, ◌-◌, ◌*◌, ◌<◌, ◌≤◌, inl, inr, refl, sym, subst, ap, arith, List, [], ◌∷◌, length, get_or, map}
use Rattle.std.specs.Prelude.{unwrap_or, Option}
use Rattle.std.specs.List.{range_with_len, sum_by}
use Rattle.std.proofs.lemmas.List.Sums.{sum_by-cons}
use Rattle.std.proofs.lemmas.List.FromFn.{get_or-map-range_with_len}
use Rattle.std.proofs.lemmas.Option.{get_or_from_slice_get}
use Rattle.hg_base.specs.Graph.{WeightedGraph, IsGraph}
use Rattle.hg_base.specs.Lists.{IsIn}
use Rattle.edge_laws.specs.Rank.{ranked}
use Rattle.tree_laws.specs.Tree.{ParentTree, parent, altitude, IsAbove, graph_tree}
use Rattle.tree_laws.specs.Levels.{is_above}
use Rattle.tree_laws.proofs.Climbs.{above-next, above-altitude}
use Rattle.hg_base.proofs.Lists.{IsIn-filter, slice_get-some}
use Rattle.tree_laws.proofs.Tops.{is_above-from}
use Rattle.attributes.specs.Attributes.{floor, area, area_of, volume_under, dynamics_under, vertices_below, altitude_over}
use Rattle.attributes.proofs.LowFloors.{least-le, in-mapped, floors-low}
use Rattle.watershed_cut.specs.MinimumTests.{vertex_label}
use Rattle.watershed_cut.specs.Plateaus.{IsPlateau}
use Rattle.partition_tree.proofs.ListTests.{range-from}
use Rattle.watershed_cut.proofs.PlateauLaws.{leaf-node, root-alone}
use Rattle.extinction.specs.Values.{graph_values}
use Rattle.hg_base.specs.declared.kind.Kind.{Kind}
use Rattle.hg_base.specs.declared.kind.Kind.TheVariants as kinds
use Rattle.extinction.proofs.TreeFacts.{of-graph}
use Rattle.extinction.proofs.LowestHolders.{levelled, IsBottom, bottom-of, bottom-same, labelled-member}

-- a sum is no less than any of what it adds
part-of_sum : (f : ℕ → ℕ) (xs : List ℕ) (x : ℕ) → IsIn x xs → f x ≤ sum_by f xs
part-of_sum f [] x i = absurd i
part-of_sum f (y ∷ ys) x (inl same) = let e : f y ≡ f x = ap f same in omega (arith, sum_by-cons f y ys, e)
part-of_sum f (y ∷ ys) x (inr later) = omega (arith, sum_by-cons f y ys, part-of_sum f ys x later)

-- a node strictly above a minimum is higher than the floor of a vertex in it
pub floor-under : (g : WeightedGraph) → IsGraph g → (label q i x : ℕ) → 1 ≤ label → IsBottom g label q → x < g.n → vertex_label g.n (ranked g) x ≡ label → IsAbove (graph_tree g) i q → i ≢ q →
    floor g x < altitude (graph_tree g) i
floor-under g h label q i x some' b hx its up other =
    let t = graph_tree g in
    let o = of-graph g h in
    let l = levelled g h in
    let r = bottom-of g h x (labelled-member g.n (ranked g) x (omega arith)) in
    let same : r.0 ≡ q = bottom-same g h label r.0 q (subst (λ (k : ℕ). IsBottom g k r.0) its r.1.0) b in
    let top : IsPlateau (graph_tree g) (parent (graph_tree g) x) q = subst (λ (k : ℕ). IsPlateau (graph_tree g) (parent (graph_tree g) x) k) same r.1.1 in
    elim top.last [
      | inl root ↦ absurd (other (root-alone (graph_tree g) i q root up))
      | inr high ↦ elim (above-next (graph_tree g) i q up) [
        | inl level ↦ absurd (other level)
        | inr over ↦
            let nx = leaf-node (graph_tree g) o.well_formed x hx in
            let climb : altitude (graph_tree g) (parent (graph_tree g) q) ≤ altitude (graph_tree g) i = above-altitude (graph_tree g) o.climbs l.rise i (parent (graph_tree g) q) (o.climbs.within q b.node) over in
            let low : floor g x ≤ altitude (graph_tree g) (parent (graph_tree g) x) = floors-low g h x x nx hx (0, refl) in
            omega (arith, climb, low, high)
      ]
    ]

-- a vertex has an area
area-some : (g : WeightedGraph) → IsGraph g → (x : ℕ) → x < g.n → 1 ≤ area g x
area-some g h x hx =
    let one : length g.areas ≡ g.n = h.one_area_each in
    let a = slice_get-some g.areas x (omega arith) in
    let some' : 1 ≤ a.0 = subst (λ (k : ℕ). 1 ≤ k) (get_or_from_slice_get g.areas x a.0 0 a.1) (h.positive_areas x 0 (omega arith)) in
    subst (λ (o : Option ℕ). 1 ≤ unwrap_or o 0) (sym a.1) some'

-- a product of two that aren't 0
product-some : (a d : ℕ) → 1 ≤ a → 1 ≤ d → 1 ≤ a * d
product-some (suc a) (suc d) p q = omega arith
product-some zero d p q = absurd (omega arith)
product-some (suc a) zero p q = absurd (omega arith)

-- a node above a vertex whose floor is lower than the altitude over the node is worth something
pub worth-some : (g : WeightedGraph) → IsGraph g → (kind : Kind) (c x : ℕ) → c < length (graph_tree g).parents → x < g.n → IsAbove (graph_tree g) c x → floor g x < altitude_over (graph_tree g) c →
    1 ≤ get_or (graph_values g kind) c 0
worth-some g h kind c x hc hx over low = by kind
  where
    t : ParentTree
    t = graph_tree g

    there : IsIn x (vertices_below t c)
    there = IsIn-filter (is_above t c) x (range_with_len 0 t.leaves) (is_above-from t (of-graph g h).climbs c x (leaf-node t (of-graph g h).well_formed x hx) over) (range-from 0 g.n x (omega arith) (omega arith))

    by : (k : Kind) → 1 ≤ get_or (graph_values g k) c 0
    by kinds.Area = subst (λ (z : ℕ). 1 ≤ z) (sym (get_or-map-range_with_len (λ i. area_of g (vertices_below t i)) 0 (length t.parents) c c 0 hc (omega arith)))
        (let part = part-of_sum (area g) (vertices_below t c) x there in let some' = area-some g h x hx in omega (arith, part, some'))
    by kinds.Volume = subst (λ (z : ℕ). 1 ≤ z) (sym (get_or-map-range_with_len (λ i. volume_under g (altitude_over t i) (vertices_below t i)) 0 (length t.parents) c c 0 hc (omega arith)))
        (let part = part-of_sum (λ y. area g y * (altitude_over t c - floor g y)) (vertices_below t c) x there in
        let some' = product-some (area g x) (altitude_over t c - floor g x) (area-some g h x hx) (omega arith) in omega (arith, part, some'))
    by kinds.Dynamics = subst (λ (z : ℕ). 1 ≤ z) (sym (get_or-map-range_with_len (λ i. dynamics_under g (altitude_over t i) (vertices_below t i)) 0 (length t.parents) c c 0 hc (omega arith)))
        (let most = least-le (map (floor g) (vertices_below t c)) (floor g x) (in-mapped (floor g) (vertices_below t c) x there) in omega (arith, most, low))
