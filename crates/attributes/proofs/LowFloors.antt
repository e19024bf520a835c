-- No floor of a vertex below a node is above the altitude of the node's parent.
use Rattle.std.proofs.Common.{◌≡◌, ℕ, zero, suc, ◌+◌, ◌<◌, ◌≤◌, ◌^◌, Bool, true, ◌⊎◌, inl, inr, refl, sym, ◌∙◌, subst, ap, arith, List, [], ◌∷◌, length, map}
use Rattle.std.specs.Prelude.{◌==◌, filter, min, nat_le, Option, Some, slice_get}
use Rattle.std.specs.Option.{option_map_or}
use Rattle.std.specs.List.{fold}
use Rattle.std.proofs.lemmas.Bool.{cases_Bool, cases_eq, eqb-true, eq-eqb, le-leb, leb-true, or_left, or_right, or_cases}
use Rattle.std.proofs.lemmas.Option.{get_or_from_slice_get, slice_get_within}
use Rattle.hg_base.specs.declared.graph.Edge.{Edge}
use Rattle.hg_base.specs.Graph.{WeightedGraph, IsGraph, JoinsTwo, AreLight}
use Rattle.edge_laws.specs.Edges.{ListedEdge, EdgeList, Joined, joined, below, joins}
use Rattle.hg_base.specs.Lists.{IsIn}
use Rattle.edge_laws.specs.Rank.{rank, number_at, listed, ranked}
use Rattle.edge_laws.specs.Saliency.{at_most}
use Rattle.tree_laws.specs.Tree.{parent, altitude, IsAbove, place, graph_tree}
use Rattle.edge_laws.proofs.Walks.{IsSame-joined}
use Rattle.hg_base.proofs.Lists.{IsIn-filter, IsIn-kept, slice_get-some}
use Rattle.edge_laws.proofs.Sets.{IsIn-joins_kept}
use Rattle.edge_laws.proofs.Ranks.{number_at-below}
use Rattle.edge_laws.proofs.Ranked.{ranked-at, AreApart-ranked, AreWithin-ranked, AreByWeight-ranked, IsIn-ranked}
use Rattle.tree_laws.proofs.Climbs.{above-parent, ancestor-root}
use Rattle.tree_laws.proofs.FrontOnce.{leaf_or_made, leaf-alone, below-ends, ends-apart}
use Rattle.tree_laws.proofs.Levels.{level-tree}
use Rattle.tree_laws.proofs.Meeting.{altitude-leaf, altitude-inner}
use Rattle.partition_tree.proofs.TreeLemmas.{tree-up}
use Rattle.attributes.specs.Attributes.{is_end_of, weights_at, least, floor, altitude_over}
use Rattle.attributes.proofs.Gathers.{least-low}

-- a least number is no greater than any of the list
least-from : (a : ℕ) (ks : List ℕ) (k : ℕ) → IsIn k ks → fold min a ks ≤ k
least-from a [] k i = absurd i
least-from a (j ∷ js) k (inl same) = let low = least-low (min a j) js in omega (arith, low, same)
least-from a (j ∷ js) k (inr later) = least-from (min a j) js k later

-- so is the least of the whole list
pub least-le : (ks : List ℕ) (k : ℕ) → IsIn k ks → least ks ≤ k
least-le [] k i = absurd i
least-le (j ∷ js) k (inl same) = let low = least-low j js in omega (arith, low, same)
least-le (j ∷ js) k (inr later) = least-from j js k later

-- an element at a place is in the list
in-at : {X : Type 0} (xs : List X) (i : ℕ) (x : X) → slice_get xs i ≡ Some x → IsIn x xs
in-at [] i x at = absurd (cc)
in-at (y ∷ ys) zero x at = inl (cc)
in-at (y ∷ ys) (suc i) x at = inr (in-at ys i x at)

-- the value at an element is among the values
pub in-mapped : {X Y : Type 0} (f : X → Y) (xs : List X) (x : X) → IsIn x xs → IsIn (f x) (map f xs)
in-mapped f [] x i = absurd i
in-mapped f (y ∷ ys) x (inl same) = inl (ap f same)
in-mapped f (y ∷ ys) x (inr later) = inr (in-mapped f ys x later)

-- a filter keeps nothing, or something is there that passes
filter-some : {X : Type 0} (p : X → Bool) (xs : List X) → (filter p xs ≡ []) ⊎ ((i : ℕ) × ((x : X) × ((slice_get xs i ≡ Some x) × (p x ≡ true))))
filter-some p [] = inl refl
filter-some p (y ∷ ys) = elim (cases_Bool (p y)) [
  | inl passes ↦ inr (0, (y, (refl, passes)))
  | inr fails ↦ elim (filter-some p ys) [
    | inl none' ↦ inl (rw fails none')
    | inr some ↦ inr (suc some.0, some.1)
  ]
]

-- an edge at a vertex weighs no less than its floor
floor-edge : (g : WeightedGraph) (x k : ℕ) (e : Edge) → slice_get g.edges k ≡ Some e → is_end_of x e ≡ true → floor g x ≤ e.w
floor-edge g x k e at end = least-le (weights_at g x) e.w (in-mapped (λ (f : Edge). f.w) (filter (is_end_of x) g.edges) e (IsIn-filter (is_end_of x) e g.edges end (in-at g.edges k e at)))

-- the edge of the graph that a ranked one is
pub record IsRankedEdge (g : WeightedGraph) (f : ListedEdge) : Type 0 where
  pub number : ℕ
  pub edge : Edge
  pub at : slice_get g.edges number ≡ Some edge
  pub u : f.u ≡ edge.u
  pub v : f.v ≡ edge.v
  pub weight : f.weight ≡ edge.w

-- each ranked edge is one of the graph's
pub ranked-edge : (g : WeightedGraph) (f : ListedEdge) → IsIn f (ranked g) → IsRankedEdge g f
ranked-edge g f i =
    let is = ranked-at g f i in
    let low : f.rank < length g.edges = is.0 in
    let k = number_at g f.rank in
    let found = slice_get-some g.edges k (number_at-below g f.rank (omega arith)) in record {
      number = k;
      edge = found.0;
      at = found.1;
      u = ap (λ (x : ListedEdge). x.u) is.1 ∙ ap (λ (o : Option Edge). option_map_or (λ x. x.u) o 0) found.1;
      v = ap (λ (x : ListedEdge). x.v) is.1 ∙ ap (λ (o : Option Edge). option_map_or (λ x. x.v) o 0) found.1;
      weight = ap (λ (x : ListedEdge). x.weight) is.1 ∙ ap (λ (o : Option Edge). option_map_or (λ x. x.w) o 0) found.1;
    }

-- a ranked edge at a vertex weighs no less than its floor
floor-ranked : (g : WeightedGraph) (f : ListedEdge) → IsIn f (ranked g) → (x : ℕ) → (f.u ≡ x) ⊎ (f.v ≡ x) → floor g x ≤ f.weight
floor-ranked g f i x end =
    let r = ranked-edge g f i in
    let has : is_end_of x r.edge ≡ true = elim end [
      | inl first ↦ or_left (r.edge.u == x) (r.edge.v == x) (eq-eqb r.edge.u x (sym r.u ∙ first))
      | inr second ↦ or_right (r.edge.u == x) (r.edge.v == x) (eq-eqb r.edge.v x (sym r.v ∙ second))
    ] in
    let low : floor g x ≤ r.edge.w = floor-edge g x r.number r.edge r.at has in
    let same : f.weight ≡ r.edge.w = r.weight in
    omega (arith, low, same)

-- a walk to another vertex begins with an edge at the first
first-edge : (s : EdgeList) (k x y : ℕ) → Joined (at_most s k) x y → (x ≡ y → ⊥) → (f : ListedEdge) × (IsIn f s × ((f.weight ≤ k) × ((f.u ≡ x) ⊎ (f.v ≡ x))))
first-edge s k x y ([], w) unlike = absurd (unlike w)
first-edge s k x y (z ∷ zs, w) unlike =
    let f = w.0.0 in
    let kept = IsIn-kept (λ (e : ListedEdge). nat_le e.weight k) f s w.0.1.0 in
    (f, (kept.1, (leb-true f.weight k kept.0, elim w.0.1.1 [ inl on ↦ inl on.0 | inr back ↦ inr back.0 ])))

-- where a vertex is joined to another by edges of weight at most k, its floor is no more
floor-joined : (g : WeightedGraph) (k x y : ℕ) → Joined (at_most (ranked g) k) x y → (x ≡ y → ⊥) → floor g x ≤ k
floor-joined g k x y j unlike =
    let f = first-edge (ranked g) k x y j unlike in
    let low : floor g x ≤ f.0.weight = floor-ranked g f.0 f.1.0 x f.1.1.1 in
    let light : f.0.weight ≤ k = f.1.1.0 in
    omega (arith, low, light)

-- the floors of the vertices below a node that an edge made
floor-made : (g : WeightedGraph) → IsGraph g → (e : ListedEdge) → IsIn e (joins (ranked g)) → (x : ℕ) → x < g.n → IsAbove (graph_tree g) (g.n + place (ranked g) e) x →
    floor g x ≤ altitude (graph_tree g) (g.n + place (ranked g) e)
floor-made g graph e i x h a =
    let s = ranked g in
    let apart = AreApart-ranked g in
    let within = AreWithin-ranked g graph in
    let levels = level-tree g.n (ranked g) apart within (AreByWeight-ranked g) in
    let both = below-ends g.n (ranked g) apart within e i in
    let kept = IsIn-joins_kept (ranked g) e i in
    let j = g.n + place (ranked g) e in
    let unlike : e.u ≡ e.v → ⊥ = λ q. ends-apart (ranked g) e i (subst (λ (y : ℕ). joined (below (ranked g) e.rank) e.u y ≡ true) q ((IsSame-joined (below (ranked g) e.rank)).self e.u)) in
    elim (cases_eq x e.u) [
      | inl same ↦ floor-joined g (altitude (graph_tree g) j) x e.v (levels.joined_below j x e.v h (within e kept.0).1 a both.1) (λ q. unlike (sym same ∙ q))
      | inr other ↦ floor-joined g (altitude (graph_tree g) j) x e.u (levels.joined_below j x e.u h (within e kept.0).0 a both.0) other
    ]

-- an edge at a vertex leads to another vertex
other-end : (g : WeightedGraph) (x : ℕ) (e : Edge) → JoinsTwo g.n e → is_end_of x e ≡ true → (y : ℕ) × ((y < g.n) × ((x ≡ y → ⊥) × (((e.u ≡ x) × (e.v ≡ y)) ⊎ ((e.v ≡ x) × (e.u ≡ y)))))
other-end g x e two end = elim (or_cases (e.u == x) (e.v == x) end) [
  | inl first ↦ let u : e.u ≡ x = eqb-true e.u x first in (e.v, (two.v, (λ q. two.apart (u ∙ q), inl (u, refl))))
  | inr second ↦ let v : e.v ≡ x = eqb-true e.v x second in (e.u, (two.u, (λ q. two.apart (sym q ∙ sym v), inr (v, refl))))
]

-- no edge is at a leaf that is a root
root-alone : (g : WeightedGraph) → IsGraph g → (x : ℕ) → x < g.n → parent (graph_tree g) x ≡ x → (k : ℕ) (e : Edge) → slice_get g.edges k ≡ Some e → is_end_of x e ≡ true → ⊥
root-alone g graph x h root k e at end =
    let apart = AreApart-ranked g in
    let levels = level-tree g.n (ranked g) apart (AreWithin-ranked g graph) (AreByWeight-ranked g) in
    let low : k < length g.edges = slice_get_within g.edges k e at in
    let two : JoinsTwo g.n e = subst (JoinsTwo g.n) (get_or_from_slice_get g.edges k e e at) (graph.ends k e low) in
    let to = other-end g x e two end in
    let f = listed g (rank g k) k in
    let u : f.u ≡ e.u = ap (λ (o : Option Edge). option_map_or (λ x. x.u) o 0) at in
    let v : f.v ≡ e.v = ap (λ (o : Option Edge). option_map_or (λ x. x.v) o 0) at in
    let in_list : IsIn f (at_most (ranked g) f.weight) = IsIn-filter (λ (e : ListedEdge). nat_le e.weight f.weight) f (ranked g) (le-leb f.weight f.weight (omega arith)) (IsIn-ranked g k low) in
    let ends_are : ((f.u ≡ x) × (f.v ≡ to.0)) ⊎ ((f.v ≡ x) × (f.u ≡ to.0)) = elim to.1.1.1 [
      | inl on ↦ inl (u ∙ on.0, v ∙ on.1)
      | inr back ↦ inr (v ∙ back.0, u ∙ back.1)
    ] in
    let walk : Joined (at_most (ranked g) f.weight) x to.0 = (to.0 ∷ [], ((f, (in_list, ends_are)), refl)) in
    let top = levels.one_above f.weight x h in
    let over = top.1.1 x h ([], refl) in
    let here : top.0 ≡ x = sym over.1 ∙ ancestor-root (graph_tree g) x root over.0 in
    to.1.1.0 (leaf-alone g.n (ranked g) apart x to.0 h to.1.0 (subst (λ (i : ℕ). IsAbove (graph_tree g) i to.0) here (top.1.1 to.0 to.1.0 walk)))

-- so its floor is 0
floor-root : (g : WeightedGraph) → IsGraph g → (x : ℕ) → x < g.n → parent (graph_tree g) x ≡ x → floor g x ≡ 0
floor-root g graph x h root = elim (filter-some (is_end_of x) g.edges) [
  | inl none' ↦ ap (λ (es : List Edge). least (map (λ e. e.w) es)) none'
  | inr some ↦ absurd (root-alone g graph x h root some.0 some.1.0 some.1.1.0 some.1.1.1)
]

-- No floor of a vertex below a node is above the altitude of the node's parent.
pub floors-low : (g : WeightedGraph) → IsGraph g → (i x : ℕ) → i < length (graph_tree g).parents → x < g.n → IsAbove (graph_tree g) i x → floor g x ≤ altitude_over (graph_tree g) i
floors-low g graph i x hi hx a =
    let t = graph_tree g in
    let apart = AreApart-ranked g in
    let up = tree-up g.n (ranked g) apart i hi in
    let over : IsAbove (graph_tree g) (parent (graph_tree g) i) x = above-parent (graph_tree g) i x a in
    elim (leaf_or_made g.n (ranked g) apart (parent (graph_tree g) i) up.within) [
      | inl leaf ↦
          let same : parent (graph_tree g) i ≡ x = leaf-alone g.n (ranked g) apart (parent (graph_tree g) i) x leaf hx over in
          let own : parent (graph_tree g) i ≡ i = elim (cases_eq (parent (graph_tree g) i) i) [ inl root ↦ root | inr inner ↦ absurd (let high : g.n ≤ parent (graph_tree g) i = up.inner inner in omega arith) ] in
          let root : parent (graph_tree g) x ≡ x = subst (λ (k : ℕ). parent (graph_tree g) k ≡ k) (sym own ∙ same) own in
          let flat : floor g x ≡ 0 = floor-root g graph x hx root in
          omega (arith, flat)
      | inr made ↦
          subst (λ (j : ℕ). floor g x ≤ altitude (graph_tree g) j) made.1.1
          (floor-made g graph made.0 made.1.0 x hx (subst (λ (j : ℕ). IsAbove (graph_tree g) j x) (sym made.1.1) over))
    ]

-- floors are weights, or 0, and so fit 32 bits
pub floor-small : (g : WeightedGraph) → AreLight g.edges → (x : ℕ) → floor g x < 2 ^ 32
floor-small g small x = elim (filter-some (is_end_of x) g.edges) [
  | inl none' ↦ let flat : floor g x ≡ 0 = ap (λ (es : List Edge). least (map (λ e. e.w) es)) none' in omega (arith, flat)
  | inr some ↦
      let k = some.0 in
      let e = some.1.0 in
      let low : floor g x ≤ e.w = floor-edge g x k e some.1.1.0 some.1.1.1 in
      let light : e.w < 2 ^ 32 = subst (λ (f : Edge). f.w < 2 ^ 32) (get_or_from_slice_get g.edges k e e some.1.1.0) (small k e (slice_get_within g.edges k e some.1.1.0)) in
      omega (arith, low, light)
]

-- altitudes are weights, or 0, and so fit 32 bits
pub altitudes-small : (g : WeightedGraph) → AreLight g.edges → (j : ℕ) → j < length (graph_tree g).parents → altitude (graph_tree g) j < 2 ^ 32
altitudes-small g small j h =
    let apart = AreApart-ranked g in
    elim (leaf_or_made g.n (ranked g) apart j h) [
      | inl leaf ↦ let flat : altitude (graph_tree g) j ≡ 0 = altitude-leaf g.n (ranked g) j leaf in omega (arith, flat)
      | inr made ↦
          let r = ranked-edge g made.0 (IsIn-joins_kept (ranked g) made.0 made.1.0).0 in
          let is : altitude (graph_tree g) j ≡ made.0.weight = ap (altitude (graph_tree g)) (sym made.1.1) ∙ altitude-inner g.n (ranked g) apart made.0 made.1.0 in
          let light : r.edge.w < 2 ^ 32 = subst (λ (e : Edge). e.w < 2 ^ 32) (get_or_from_slice_get g.edges r.number r.edge r.edge r.at) (small r.number r.edge (slice_get_within g.edges r.number r.edge r.at)) in
          subst (λ (k : ℕ). k < 2 ^ 32) (sym (is ∙ r.weight)) light
    ]
