-- The numbering of a part that took in the lots of all parts of a plan is the tree of the plan's edges.
use Rattle.std.proofs.Common.{◌≡◌, ℕ, zero, suc, ◌+◌, ◌*◌, ◌<◌, ◌≤◌, sym, ◌∙◌, subst, ap, arith, List, ◌++◌, length, map}
use Rattle.std.specs.Prelude.{Option, Some, replicate, slice_get}
use Rattle.std.specs.Option.{option_map_or}
use Rattle.std.specs.List.{range_with_len}
use Rattle.std.proofs.lemmas.List.FromFn.{length-map-range_with_len}
use Rattle.hg_base.specs.Graph.{WeightedGraph}
use Rattle.edge_laws.specs.Rank.{listed, number_at, ranked}
use Rattle.edge_laws.specs.Edges.{ListedEdge, EdgeList, next}
use Rattle.hg_base.specs.Lists.{IsIn}
use Rattle.tree_laws.specs.Tree.{ParentTree, tree_of, node_or, IsFrontTree}
use Rattle.tree_laws.proofs.FrontOnce.{front-tree}
use Rattle.edge_laws.proofs.Ranked.{ranked-at}
use Rattle.node_region.specs.Pool.{count, leaf_of}
use Rattle.border_climb.specs.Stands.{PartState, Stands}
use Rattle.border_climb.specs.Splicing.{rank_of}
use Rattle.edge_order.specs.Order.{EdgeOrder, order_of, number_at_rank}
use Rattle.tile_plan.specs.Plan.{TilePlan, IsPlan, edges_at, place_of, root, vertices}
use Rattle.tile_plan.proofs.RootEdges.{root-all, apart-edges, within-edges}
use Rattle.tile_plan.proofs.Edges.{AreApart-rising}
use Rattle.tile_plan.proofs.Ranges.{places-once, places-below}
use Rattle.tile_plan.proofs.Reading.{IsIn-renamed_back}
use Rattle.partition_tree.specs.TreeLists.{IsWellFormed, lists_of}
use Rattle.partition_tree.specs.CellNodes.{AreCells, AreListsOfPart, AreNodeNumbers, node_above, inner_parent, IsPlacing, placed_tree}
use Rattle.partition_tree.specs.RankWeights.{weight_at}
use Rattle.partition_tree.proofs.TreeLemmas.{tree-well_formed}
use Rattle.partition_tree.proofs.CellNodeLaws.{Stands-cells, IsNumbering, numbering-of, leaf-parents, inner-parents, inner-values}
use Rattle.partition_tree.proofs.PlacedTree.{placed-tree}

-- a part that stands for all edges of a plan, and the order of the same edges
pub record IsPlanned (order : EdgeOrder) (plan : TilePlan) (part : PartState) : Type 0 where
  pub is_plan : IsPlan plan
  pub graph : (g : WeightedGraph) × (order ≡ order_of g)
  pub edges : order.edges ≡ plan.edges
  pub first : part.region.first ≡ 0
  pub places : count part.region ≡ vertices plan
  pub small : length order.edges ≤ 4194304
  pub stands : Stands part (edges_at plan (root plan))

positive : (a b : ℕ) → 1 ≤ a → 1 ≤ b → 1 ≤ a * b
positive zero b la lb = absurd (omega arith)
positive (suc a) zero la lb = absurd (omega arith)
positive (suc a) (suc b) la lb = omega arith

-- the value at a place of a mapped range
map-range-get : {X : Type 0} (f : ℕ → X) (a n i : ℕ) → i < n → slice_get (map f (range_with_len a n)) i ≡ Some (f (a + i))
map-range-get {X} f a zero i lt = absurd (omega arith)
map-range-get {X} f a (suc n) zero lt = let z : a ≡ a + 0 = omega arith in ap (λ k. Some (f k)) z
map-range-get {X} f a (suc n) (suc i) lt =
    let z : (a + 1) + i ≡ a + suc i = omega arith in
    map-range-get f (a + 1) n i (omega arith) ∙ ap (λ k. Some (f k)) z

-- an edge of a graph's order is at the place of its rank
ranked-place : (g : WeightedGraph) (e : ListedEdge) → IsIn e (ranked g) → (e.rank < length (ranked g)) × (slice_get (ranked g) e.rank ≡ Some e)
ranked-place g e i =
    let r = ranked-at g e i in
    let len : length (ranked g) ≡ length g.edges = length-map-range_with_len (λ k. listed g k (number_at g k)) 0 (length g.edges) in (
      (let low : e.rank < length g.edges = r.0 in omega (arith, len, low)),
      map-range-get (λ k. listed g k (number_at g k)) 0 (length g.edges) e.rank r.0
          ∙ ap (λ k. Some (listed g k (number_at g k))) (let z : 0 + e.rank ≡ e.rank = omega arith in z)
          ∙ ap (λ (x : ListedEdge). Some x) (sym r.1),
    )

order-place : (order : EdgeOrder) (g : WeightedGraph) → order ≡ order_of g → (e : ListedEdge) → IsIn e order.edges → (e.rank < length order.edges) × (slice_get order.edges e.rank ≡ Some e)
order-place order g is e i =
    let same : order.edges ≡ ranked g = ap (λ (o : EdgeOrder). o.edges) is in
    subst (λ (l : EdgeList). (e.rank < length l) × (slice_get l e.rank ≡ Some e)) (sym same)
    (ranked-place g e (subst (λ (l : EdgeList). IsIn e l) same i))

-- an edge between places has the rank, the weight and the number of an edge of the order
record IsOrdered (order : EdgeOrder) (e : ListedEdge) : Type 0 where
  low : e.rank < length order.edges
  weight : weight_at order e.rank ≡ e.weight
  number : number_at_rank order e.rank ≡ e.number

planned-edge : (order : EdgeOrder) (plan : TilePlan) (part : PartState) → IsPlanned order plan part → (e : ListedEdge) → IsIn e (edges_at plan (root plan)) → IsOrdered order e
planned-edge order plan part w e i =
    let b = IsIn-renamed_back (place_of plan) plan.edges e ((root-all plan w.is_plan).on e i) in
    let at = order-place order w.graph.0 w.graph.1 b.0 (subst (λ (l : EdgeList). IsIn b.0 l) (sym w.edges) b.1.0) in
    let rank : b.0.rank ≡ e.rank = ap (λ (x : ListedEdge). x.rank) b.1.1 in
    let here : slice_get order.edges e.rank ≡ Some b.0 = ap (slice_get order.edges) (sym rank) ∙ at.1 in
    record {
      low = subst (λ (k : ℕ). k < length order.edges) rank at.0;
      weight = ap (λ (o : Option ListedEdge). option_map_or (λ (x : ListedEdge). x.weight) o 0) here ∙ ap (λ (x : ListedEdge). x.weight) b.1.1;
      number = ap (λ (o : Option ListedEdge). option_map_or (λ (x : ListedEdge). x.number) o 0) here ∙ ap (λ (x : ListedEdge). x.number) b.1.1;
    }

pub planned-cells : (order : EdgeOrder) (plan : TilePlan) (part : PartState) → IsPlanned order plan part → AreCells part (length order.edges)
planned-cells order plan part w =
    Stands-cells part (edges_at plan (root plan)) (length order.edges) w.stands w.first (subst (λ (k : ℕ). k ≤ 1048576) (sym w.places) w.is_plan.frame.vertices) (λ e i. (planned-edge order plan part w e i).low)

-- the places name the vertices
pub planned-placing : (order : EdgeOrder) (plan : TilePlan) (part : PartState) → IsPlanned order plan part → IsPlacing (vertices plan) (place_of plan) (edges_at plan (root plan)) plan.edges
planned-placing order plan part w = record {
  one = places-once plan w.is_plan;
  within = within-edges plan w.is_plan;
  apart = w.stands.apart;
  renamed_apart = apart-edges plan w.is_plan;
  same = root-all plan w.is_plan;
}

-- The lists that were made of the part are those of the tree between places, with the leaves at the vertices.
drawn-placed : (order : EdgeOrder) (plan : TilePlan) (part : PartState) (parents altitudes makers : List ℕ) → IsPlanned order plan part →
    AreListsOfPart part (vertices plan) (length order.edges) (place_of plan) (weight_at order) (number_at_rank order) parents altitudes makers →
    lists_of (vertices plan) parents altitudes makers ≡ placed_tree (vertices plan) (place_of plan) (edges_at plan (root plan))
drawn-placed order plan part parents altitudes makers w d =
    ap (λ (l : List ℕ). lists_of (vertices plan) l altitudes makers) p
    ∙ ap (λ (l : List ℕ). lists_of (vertices plan) (placed_tree (vertices plan) (place_of plan) (edges_at plan (root plan))).parents l makers) a
    ∙ ap (λ (l : List ℕ). lists_of (vertices plan) (placed_tree (vertices plan) (place_of plan) (edges_at plan (root plan))).parents (placed_tree (vertices plan) (place_of plan) (edges_at plan (root plan))).altitudes l) m
  where
    covered : (f k : ℕ) → f ≡ 0 → k ≡ vertices plan → (v : ℕ) → v < vertices plan → (f ≤ place_of plan v) × (place_of plan v < f + k)
    covered f k zero_is all v lt = let b = places-below plan v w.is_plan lt in (omega arith, omega (arith, b))

    num : IsNumbering part (edges_at plan (root plan)) (vertices plan) d.made d.numbers
    num =
        numbering-of part (edges_at plan (root plan)) (vertices plan) (length order.edges) d.cells d.made d.numbers w.stands (λ e i. (planned-edge order plan part w e i).low) d.by_rank d.made_is
        (subst (λ (k : ℕ). AreNodeNumbers k d.made d.numbers) w.places d.numbers_of)

    p : parents ≡ (placed_tree (vertices plan) (place_of plan) (edges_at plan (root plan))).parents
    p =
        d.parents_are
        ∙ ap (λ (k : ℕ). map (λ v. node_above d.numbers v (leaf_of part.region (place_of plan v))) (range_with_len 0 (vertices plan)) ++ map (inner_parent k part.region d.made d.numbers) (range_with_len 0 (length d.made))) w.places
        ∙ ap (λ (l : List ℕ). l ++ map (inner_parent (vertices plan) part.region d.made d.numbers) (range_with_len 0 (length d.made)))
        (leaf-parents part (edges_at plan (root plan)) (vertices plan) (place_of plan) d.made d.numbers num (covered part.region.first (count part.region) w.first w.places))
        ∙ ap (λ (l : List ℕ). map (λ v. node_or (vertices plan) (edges_at plan (root plan)) v (next (edges_at plan (root plan)) (place_of plan v) 0)) (range_with_len 0 (vertices plan)) ++ l)
        (inner-parents part (edges_at plan (root plan)) (vertices plan) d.made d.numbers num)

    a : altitudes ≡ (placed_tree (vertices plan) (place_of plan) (edges_at plan (root plan))).altitudes
    a =
        d.altitudes_are
        ∙ ap (λ (k : ℕ). replicate k 0 ++ map (λ id. weight_at order (rank_of part.region id)) d.made) w.places
        ∙ ap (λ (l : List ℕ). replicate (vertices plan) 0 ++ l)
        (inner-values part (edges_at plan (root plan)) (vertices plan) d.made d.numbers num (weight_at order) (λ e. e.weight) (λ e i. (planned-edge order plan part w e i).weight))

    m : makers ≡ (placed_tree (vertices plan) (place_of plan) (edges_at plan (root plan))).makers
    m = d.makers_are ∙ inner-values part (edges_at plan (root plan)) (vertices plan) d.made d.numbers num (number_at_rank order) (λ e. e.number) (λ e i. (planned-edge order plan part w e i).number)

-- and so of the tree of the plan's edges
pub drawn-tree : (order : EdgeOrder) (plan : TilePlan) (part : PartState) (n ranks : ℕ) (parents altitudes makers : List ℕ) → IsPlanned order plan part →
    n ≡ vertices plan → ranks ≡ length order.edges → AreListsOfPart part (vertices plan) ranks (place_of plan) (weight_at order) (number_at_rank order) parents altitudes makers →
    lists_of n parents altitudes makers ≡ tree_of (vertices plan) plan.edges
drawn-tree order plan part n ranks parents altitudes makers w is all d =
    ap (λ (k : ℕ). lists_of k parents altitudes makers) is
    ∙ drawn-placed order plan part parents altitudes makers w (subst (λ (k : ℕ). AreListsOfPart part (vertices plan) k (place_of plan) (weight_at order) (number_at_rank order) parents altitudes makers) all d)
    ∙ placed-tree (vertices plan) (place_of plan) (edges_at plan (root plan)) plan.edges (planned-placing order plan part w)

-- a well-formed tree
pub drawn-forest : (order : EdgeOrder) (plan : TilePlan) (part : PartState) → IsPlanned order plan part → (t : ParentTree) → t ≡ tree_of (vertices plan) plan.edges → IsWellFormed t
drawn-forest order plan part w t is =
    subst IsWellFormed (sym is) (tree-well_formed (vertices plan) plan.edges (positive plan.frame.width plan.frame.height w.is_plan.frame.width w.is_plan.frame.height) w.is_plan.frame.vertices (AreApart-rising plan.edges w.is_plan.rising) (within-edges plan w.is_plan))

-- the tree of the plan's edges is a front tree
pub planned-fronts : (plan : TilePlan) → IsPlan plan → IsFrontTree (tree_of (vertices plan) plan.edges) (vertices plan) plan.edges
planned-fronts plan is = front-tree (vertices plan) plan.edges (AreApart-rising plan.edges is.rising) (within-edges plan is)
