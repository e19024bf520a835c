-- Level 0 of the hierarchical watershed: the joining edges of persistence 0 join what the trees join.
use Rattle.std.proofs.Common.{◌≡◌, ℕ, zero, suc, ◌+◌, ◌<◌, ◌≤◌, Bool, true, false, ◌⊎◌, inl, inr, refl, sym, ◌∙◌, ap, subst, arith, List, [], ◌∷◌, length, get_or}
use Rattle.std.specs.Prelude.{◌↔◌, ◌&&◌, not, min, nat_lt, filter}
use Rattle.std.proofs.lemmas.Bool.{cases_Bool, both_ways, and_parts, and_from, and_left, and_right, not-true, not_from_false, true_from_ne_false, false_from_ne_true, cond-true, cond-false, lt-ltb}
use Rattle.std.proofs.lemmas.List.FromFn.{get_or-map-range_with_len, length-map-range_with_len}
use Rattle.std.proofs.lemmas.List.{length-map}
use Rattle.hg_base.specs.Graph.{WeightedGraph, IsGraph}
use Rattle.edge_laws.specs.Edges.{ListedEdge, EdgeList, AreApart, AreWithin, IsWalk, joined, below, is_joining, joins}
use Rattle.hg_base.specs.Lists.{IsIn}
use Rattle.hg_base.specs.Labels.{IsLabel}
use Rattle.edge_laws.specs.Rank.{ranked}
use Rattle.edge_laws.specs.Saliency.{at_most, AreByWeight}
use Rattle.tree_laws.specs.Tree.{ParentTree, altitude, IsAbove, graph_tree, place}
use Rattle.tree_laws.specs.Levels.{AltitudesRise, Shares}
use Rattle.tree_laws.proofs.Climbs.{above-on, above-next, above-either, above-rises, above-parent}
use Rattle.hg_base.proofs.Lists.{IsIn-append, IsIn-append_back, IsIn-filter, IsIn-kept}
use Rattle.edge_laws.proofs.Drops.{holds}
use Rattle.tree_laws.proofs.FrontOnce.{below-ends}
use Rattle.tree_laws.proofs.Levels.{level-tree}
use Rattle.edge_laws.proofs.Ranked.{AreApart-ranked}
use Rattle.edge_laws.proofs.Members.{IsIn-below_kept}
use Rattle.edge_laws.proofs.Sets.{IsIn-joins, IsIn-joins_kept}
use Rattle.tree_laws.proofs.TreeNodes.{made-within}
use Rattle.edge_laws.proofs.Walks.{IsSame-joined, joined-ends, Joined-joined}
use Rattle.tree_laws.proofs.ZoneLevels.{shares-joined}
use Rattle.partition_tree.specs.TreeLists.{IsWellFormed}
use Rattle.partition_tree.specs.Children.{child_count}
use Rattle.partition_tree.proofs.TreeLemmas.{tree-well_formed, tree-rises}
use Rattle.attributes.specs.Attributes.{floor}
use Rattle.watershed_cut.specs.Minima.{IsEnd, IsMinimumEdge, InMinimum}
use Rattle.watershed_cut.specs.MinimumTests.{is_minimum, minimum_edges, vertex_label, minimum_count, edge_label}
use Rattle.watershed_cut.specs.MinimumLabels.{LabelledMinima, minima_of}
use Rattle.watershed_cut.specs.Forest.{reaches, is_forest, trees}
use Rattle.watershed_cut.specs.Watershed.{tree_label}
use Rattle.watershed_cut.proofs.ForestWalks.{reaches-to, reaches-from}
use Rattle.watershed_cut.proofs.JoinedByKind.{joined_into}
use Rattle.watershed_cut.proofs.MinimumWalks.{minimum-to, minimum-from, minimum_edges-to, minimum-next, in_minimum-from, step-first, step-second}
use Rattle.watershed_cut.proofs.MinimumByWeight.{at_most-to, at_most-from}
use Rattle.watershed_cut.proofs.Star.{in-map, map-in}
use Rattle.watershed_cut.proofs.TreeLabels.{label-range, tree-label_same}
use Rattle.extinction.specs.Values.{graph_values}
use Rattle.extinction.specs.Holding.{holds as holding, child, child_holds, both_hold}
use Rattle.extinction.specs.Persistence.{persistence, persistences_of}
use Rattle.extinction.specs.HierarchicalWatershed.{by_persistence, persistence_edges, hierarchical_of}
use Rattle.hg_base.specs.declared.kind.Kind.{Kind}
use Rattle.extinction.proofs.SideLemmas.{IsSide, AreSides, AreChildrenOf}
use Rattle.extinction.proofs.TreeFacts.{of-graph, graph-children}
use Rattle.extinction.proofs.HoldLemmas.{holds-from, holds-to}
use Rattle.extinction.proofs.LowestHolders.{IsBottom, bottom-of, bottom-label, bottom-same, over-bottom, bottom-over, inside-minimum, labelled-member}
use Rattle.extinction.proofs.NodeLabels.{vertex-read, made-label, bottom-last}
use Rattle.extinction.proofs.PositiveAttributes.{floor-under, worth-some}
use Rattle.extinction.proofs.ByPersistence.{place-low, hierarchy-apart, hierarchy-within, hierarchy-by_weight}

-- a node that holds is above the lowest node of a label
pub holds-bottom : (g : WeightedGraph) → IsGraph g → (i : ℕ) → i < length (graph_tree g).parents → holding (graph_tree g) (minima_of g) i ≡ true →
    (label : ℕ) × (IsLabel (minimum_count g.n (ranked g)) label × ((q : ℕ) × (IsBottom g label q × IsAbove (graph_tree g) i q)))
holds-bottom g h i hi hold =
    let l = holds-to (graph_tree g) (minima_of g) i hold in
    let q = bottom-label g h l.0 l.1.minimum in
    (l.0, (l.1.minimum, (q.0, (q.1, over-bottom g h l.0 q.0 i q.1 hi (λ x hx its. l.1.all x hx (vertex-read g x hx ∙ its))))))

pub bottom-holds : (g : WeightedGraph) → IsGraph g → (label q i : ℕ) → IsLabel (minimum_count g.n (ranked g)) label → IsBottom g label q → IsAbove (graph_tree g) i q → holding (graph_tree g) (minima_of g) i ≡ true
bottom-holds g h label q i is b up =
    let o = of-graph g h in
    holds-from (graph_tree g) (minima_of g) o.climbs (let k = o.well_formed.one_maker_each in omega (arith, k)) i label (record { minimum = is; all = λ x hx its. bottom-over g label q i b up x hx (sym (vertex-read g x hx) ∙ its) })

-- a leaf below a node
leaf-of : (g : WeightedGraph) → IsGraph g → (label q : ℕ) → IsBottom g label q → (x : ℕ) × ((x < g.n) × IsAbove (graph_tree g) q x)
leaf-of g h label q b = (of-graph g h).levels.some_leaf q b.node

-- a side of the node of e holds a minimum only where edges of lower rank lead from the end to one
side-reaches : (g : WeightedGraph) → IsGraph g → (e : ListedEdge) (w a : ℕ) → IsSide g.n (ranked g) e w a → holding (graph_tree g) (minima_of g) a ≡ true → reaches g.n (ranked g) e.rank w ≡ true
side-reaches g h e w a side hold =
    let s = ranked g in
    let l = holds-bottom g h a side.node hold in
    let q = l.1.1.0 in
    let b = l.1.1.1.0 in
    let x = leaf-of g h l.0 q b in
    let its = b.only x.0 x.1.0 x.1.1 in
    let some' : 1 ≤ l.0 = l.1.0.positive in
    let over = above-on (graph_tree g) a q x.0 l.1.1.1.1 x.1.1 in
    reaches-from g.n s e.rank w (x.0, (labelled-member g.n s x.0 (omega arith), Joined-joined (below s e.rank) w x.0 ((side.below_it x.0 x.1.0).0 over)))

-- and it does, where e is no minimum edge
reaches-side : (g : WeightedGraph) → IsGraph g → (e : ListedEdge) → IsIn e (joins (ranked g)) → (w a : ℕ) → IsSide g.n (ranked g) e w a → is_minimum (ranked g) e ≡ false → reaches g.n (ranked g) e.rank w ≡ true → holding (graph_tree g) (minima_of g) a ≡ true
reaches-side g h e i w a side outside r =
    let s = ranked g in
    let n = g.n in
    let t = graph_tree g in
    let o = of-graph g h in
    let y = reaches-to n s e.rank w r in
    let hy = y.1.0.vertex in
    let is = label-range n s y.0 (in_minimum-from n s y.0 y.1.0) in
    let b = bottom-of g h y.0 y.1.0 in
    let over : IsAbove (graph_tree g) a y.0 = (side.below_it y.0 hy).1 (holds (below s e.rank) w y.0 y.1.1) in
    elim (above-either (graph_tree g) a b.0 y.0 over (b.1.0.all y.0 hy refl)) [
      | inl up ↦ bottom-holds g h _ b.0 a is b.1.0 up
      | inr down ↦ elim (above-next (graph_tree g) b.0 a down) [
        | inl same ↦ bottom-holds g h _ b.0 a is b.1.0 (0, same)
        | inr above ↦
            let kept = IsIn-joins_kept s e i in
            let ends = below-ends n s o.apart o.within e i in
            let at : IsAbove (graph_tree g) b.0 (n + place s e) = subst (λ (k : ℕ). IsAbove (graph_tree g) b.0 k) side.parent_is above in
            let lu = b.1.0.only e.u (o.within e kept.0).0 (above-on (graph_tree g) b.0 (n + place s e) e.u at ends.0) in
            let lv = b.1.0.only e.v (o.within e kept.0).1 (above-on (graph_tree g) b.0 (n + place s e) e.v at ends.1) in
            absurd (both_ways _ outside (minimum-from s e (inside-minimum g h e i _ is.positive lu lv)))
      ]
    ]

-- no side of the node of a minimum edge holds
minimum-side : (g : WeightedGraph) → IsGraph g → (e : ListedEdge) → IsIn e (joins (ranked g)) → (w a : ℕ) → IsSide g.n (ranked g) e w a → is_minimum (ranked g) e ≡ true → holding (graph_tree g) (minima_of g) a ≡ false
minimum-side g h e i w a side inside = false_from_ne_true (holding (graph_tree g) (minima_of g) a) (λ hold.
    let s = ranked g in
    let n = g.n in
    let o = of-graph g h in
    let kept = IsIn-joins_kept s e i in
    let m = minimum-to s e kept.0 inside in
    let hu = (o.within e kept.0).0 in
    let mu : InMinimum n s e.u = record { vertex = hu; either = inr (e, (m, inl refl)) } in
    let is = label-range n s e.u (in_minimum-from n s e.u mu) in
    let b = bottom-of g h e.u mu in
    let its : edge_label n s e ≡ vertex_label n s e.u = cond-true (is_minimum s e) _ _ inside in
    let last : n + place s e ≤ b.0 = bottom-last g h (vertex_label n s e.u) b.0 (n + place s e) is.positive b.1.0 (made-within n s o.apart e i) (made-label g e i ∙ its) in
    let l = holds-bottom g h a side.node hold in
    let q = l.1.1.0 in
    let x = leaf-of g h l.0 q l.1.1.1.0 in
    let xa = above-on (graph_tree g) a q x.0 l.1.1.1.1 x.1.1 in
    let xi : IsAbove (graph_tree g) (n + place s e) x.0 = subst (λ (k : ℕ). IsAbove (graph_tree g) k x.0) side.parent_is (above-parent (graph_tree g) a x.0 xa) in
    let up : IsAbove (graph_tree g) b.0 (n + place s e) = elim (above-either (graph_tree g) b.0 (n + place s e) e.u (b.1.0.all e.u hu refl) (below-ends n s o.apart o.within e i).0) [
      | inl over ↦ over
      | inr under ↦ (0, (let low = above-rises (graph_tree g) o.climbs (n + place s e) b.0 b.1.0.node under in omega (arith, low, last)))
    ] in
    let one : l.0 ≡ vertex_label n s e.u = sym (l.1.1.1.0.only x.0 x.1.0 x.1.1) ∙ b.1.0.only x.0 x.1.0 (above-on (graph_tree g) b.0 (n + place s e) x.0 up xi) in
    let same : q ≡ b.0 = bottom-same g h (vertex_label n s e.u) q b.0 (subst (λ (k : ℕ). IsBottom g k q) one l.1.1.1.0) b.1.0 in
    let low = above-rises (graph_tree g) o.climbs a q l.1.1.1.0.node l.1.1.1.1 in
    let less : a < n + place s e = side.less in
    omega (arith, low, less, last, same))

-- a side that holds has a positive attribute
side-worth : (g : WeightedGraph) → IsGraph g → (kind : Kind) (e : ListedEdge) (w a : ℕ) → IsSide g.n (ranked g) e w a → holding (graph_tree g) (minima_of g) a ≡ true → 1 ≤ get_or (graph_values g kind) a 0
side-worth g h kind e w a side hold =
    let s = ranked g in
    let t = graph_tree g in
    let o = of-graph g h in
    let l = holds-bottom g h a side.node hold in
    let q = l.1.1.0 in
    let b = l.1.1.1.0 in
    let x = leaf-of g h l.0 q b in
    let i = g.n + place s e in
    let up : IsAbove (graph_tree g) (g.n + place s e) q = subst (λ (k : ℕ). IsAbove (graph_tree g) k q) side.parent_is (above-parent (graph_tree g) a q l.1.1.1.1) in
    let low = above-rises (graph_tree g) o.climbs a q b.node l.1.1.1.1 in
    let less : a < g.n + place s e = side.less in
    let under = floor-under g h l.0 q (g.n + place s e) x.0 l.1.0.positive b x.1.0 (b.only x.0 x.1.0 x.1.1) up (λ same. omega (arith, low, less, same)) in
    worth-some g h kind a x.0 side.node x.1.0 (above-on (graph_tree g) a q x.0 l.1.1.1.1 x.1.1) (subst (λ (k : ℕ). floor g x.0 < altitude (graph_tree g) k) (sym side.parent_is) under)

-- the persistence of the node of e, by the two sides
pub record IsValueOf (g : WeightedGraph) (kind : Kind) (e : ListedEdge) (a b : ℕ) : Type 0 where
  pub sides : AreSides g.n (ranked g) e a b ⊎ AreSides g.n (ranked g) e b a
  pub both : holding (graph_tree g) (minima_of g) a ≡ true → holding (graph_tree g) (minima_of g) b ≡ true →
      get_or (persistences_of g kind) (place (ranked g) e) 0 ≡ min (get_or (graph_values g kind) a 0) (get_or (graph_values g kind) b 0)
  pub first : holding (graph_tree g) (minima_of g) a ≡ false → get_or (persistences_of g kind) (place (ranked g) e) 0 ≡ 0
  pub second : holding (graph_tree g) (minima_of g) b ≡ false → get_or (persistences_of g kind) (place (ranked g) e) 0 ≡ 0

-- there are as many persistences as joining edges
pub persistences-length : (g : WeightedGraph) (kind : Kind) → length (persistences_of g kind) ≡ length (joins (ranked g))
persistences-length g kind =
    length-map-range_with_len (λ k. persistence (graph_tree g) (minima_of g) (graph_values g kind) (g.n + k)) 0 (length (graph_tree g).makers)
    ∙ length-map (joins (ranked g)) (λ (x : ListedEdge). x.number)

-- the persistence of a joining edge is that of its node
pub persistence-at : (g : WeightedGraph) (kind : Kind) (e : ListedEdge) → IsIn e (joins (ranked g)) →
    get_or (persistences_of g kind) (place (ranked g) e) 0 ≡ persistence (graph_tree g) (minima_of g) (graph_values g kind) (g.n + place (ranked g) e)
persistence-at g kind e i =
    let many : length (graph_tree g).makers ≡ length (joins (ranked g)) = length-map (joins (ranked g)) (λ (x : ListedEdge). x.number) in
    get_or-map-range_with_len (λ k. persistence (graph_tree g) (minima_of g) (graph_values g kind) (g.n + k)) 0 (length (graph_tree g).makers) (place (ranked g) e) (place (ranked g) e) 0
    (let low = place-low (ranked g) (AreApart-ranked g) e i in omega (arith, low, many)) (omega arith)

-- whether a child holds
child-holding : (t : ParentTree) (m : LabelledMinima) (i k a : ℕ) → child_count t i ≡ 2 → k < 2 → child t i k ≡ a → child_holds t m i k ≡ holding t m a
child-holding t m i k a two low is = ap (λ (c : ℕ). nat_lt k c && holding t m (child t i k)) two ∙ rw (lt-ltb k 2 low) (ap (holding t m) is)

pub value-of : (g : WeightedGraph) → IsGraph g → (kind : Kind) (e : ListedEdge) → IsIn e (joins (ranked g)) → (a : ℕ) × ((b : ℕ) × IsValueOf g kind e a b)
value-of g h kind e i = (
  a,
  (
    b,
    record {
      sides = kids.sides;
      both = λ p q. at ∙ cond-true (both_hold t m q') _ _ (and_from _ _ (first ∙ p) (second ∙ q)) ∙ ap (λ (x : ℕ). min (get_or v x 0) (get_or v (child t q' 1) 0)) kids.first ∙ ap (λ (x : ℕ). min (get_or v a 0) (get_or v x 0)) kids.second;
      first = λ p. at ∙ cond-false (both_hold t m q') _ _ (and_left _ _ (first ∙ p));
      second = λ q. at ∙ cond-false (both_hold t m q') _ _ (and_right _ _ (second ∙ q));
    },
  ),
)
  where
    t : ParentTree
    t = graph_tree g

    m : LabelledMinima
    m = minima_of g

    v : List ℕ
    v = graph_values g kind

    q' : ℕ
    q' = g.n + place (ranked g) e

    found : (a : ℕ) × ((b : ℕ) × AreChildrenOf g.n (ranked g) e a b)
    found = graph-children g (of-graph g h) e i

    a : ℕ
    a = found.0

    b : ℕ
    b = found.1.0

    kids : AreChildrenOf g.n (ranked g) e a b
    kids = found.1.1

    at : get_or (persistences_of g kind) (place (ranked g) e) 0 ≡ persistence t m v q'
    at = persistence-at g kind e i

    first : child_holds t m q' 0 ≡ holding t m a
    first = child-holding t m q' 0 a kids.two (omega arith) kids.first

    second : child_holds t m q' 1 ≡ holding t m b
    second = child-holding t m q' 1 b kids.two (omega arith) kids.second

-- by the ends of e: both sides hold, or the one of the first end doesn't, or that of the second
pub record AreEndsValues (g : WeightedGraph) (kind : Kind) (e : ListedEdge) (a b : ℕ) : Type 0 where
  pub sides : AreSides g.n (ranked g) e a b
  pub both : holding (graph_tree g) (minima_of g) a ≡ true → holding (graph_tree g) (minima_of g) b ≡ true → 1 ≤ get_or (persistences_of g kind) (place (ranked g) e) 0
  pub first : holding (graph_tree g) (minima_of g) a ≡ false → get_or (persistences_of g kind) (place (ranked g) e) 0 ≡ 0
  pub second : holding (graph_tree g) (minima_of g) b ≡ false → get_or (persistences_of g kind) (place (ranked g) e) 0 ≡ 0

pub ends-values : (g : WeightedGraph) → IsGraph g → (kind : Kind) (e : ListedEdge) → IsIn e (joins (ranked g)) → (a : ℕ) × ((b : ℕ) × AreEndsValues g kind e a b)
ends-values g h kind e i =
    let r = value-of g h kind e i in
    let a = r.0 in
    let b = r.1.0 in
    let v = r.1.1 in
    elim v.sides [
      | inl sides ↦ (
        a,
        (
          b,
          record {
            sides = sides;
            both = λ p q. (let wa = side-worth g h kind e e.u a sides.first p in let wb = side-worth g h kind e e.v b sides.second q in let is = v.both p q in omega (arith, wa, wb, is));
            first = v.first;
            second = v.second;
          },
        ),
      )
      | inr sides ↦ (
        b,
        (
          a,
          record {
            sides = sides;
            both = λ p q. (let wb = side-worth g h kind e e.u b sides.first p in let wa = side-worth g h kind e e.v a sides.second q in let is = v.both q p in omega (arith, wa, wb, is));
            first = v.second;
            second = v.first;
          },
        ),
      )
    ]

-- the persistence of a minimum edge, and of a forest edge, is 0
pub minimum-zero : (g : WeightedGraph) → IsGraph g → (kind : Kind) (e : ListedEdge) → IsIn e (joins (ranked g)) → is_minimum (ranked g) e ≡ true → get_or (persistences_of g kind) (place (ranked g) e) 0 ≡ 0
minimum-zero g h kind e i inside =
    let r = ends-values g h kind e i in
    r.1.1.first (minimum-side g h e i e.u r.0 r.1.1.sides.first inside)

pub forest-zero : (g : WeightedGraph) → IsGraph g → (kind : Kind) (e : ListedEdge) → IsIn e (joins (ranked g)) → is_forest g.n (ranked g) e ≡ true → get_or (persistences_of g kind) (place (ranked g) e) 0 ≡ 0
forest-zero g h kind e i forest =
    let n = g.n in
    let s = ranked g in
    let r = ends-values g h kind e i in
    let p = and_parts (is_joining s e) (not (is_minimum s e) && not (reaches n s e.rank e.u && reaches n s e.rank e.v)) forest in
    let q = and_parts (not (is_minimum s e)) (not (reaches n s e.rank e.u && reaches n s e.rank e.v)) p.1 in
    elim (cases_Bool (holding (graph_tree g) (minima_of g) r.0)) [
      | inr off ↦ r.1.1.first off
      | inl first ↦ elim (cases_Bool (holding (graph_tree g) (minima_of g) r.1.0)) [
        | inr off ↦ r.1.1.second off
        | inl second ↦ absurd (both_ways _ (not-true _ q.1) (and_from _ _ (side-reaches g h e e.u r.0 r.1.1.sides.first first) (side-reaches g h e e.v r.1.0 r.1.1.sides.second second)))
      ]
    ]

-- and an edge of persistence 0 is one of these
pub zero-trees : (g : WeightedGraph) → IsGraph g → (kind : Kind) (e : ListedEdge) → IsIn e (joins (ranked g)) → get_or (persistences_of g kind) (place (ranked g) e) 0 ≡ 0 →
    (is_forest g.n (ranked g) e ≡ true) ⊎ (is_minimum (ranked g) e ≡ true)
zero-trees g h kind e i zero' = elim (cases_Bool (is_minimum (ranked g) e)) [
  | inl inside ↦ inr inside
  | inr outside ↦
      let n = g.n in
      let s = ranked g in
      let r = ends-values g h kind e i in
      inl (and_from _ _ (IsIn-joins_kept s e i).1 (and_from _ _ (not_from_false _ outside) (not_from_false _ (false_from_ne_true (reaches n s e.rank e.u && reaches n s e.rank e.v) (λ both.
      let p = and_parts (reaches n s e.rank e.u) (reaches n s e.rank e.v) both in
      let some' = r.1.1.both (reaches-side g h e i e.u r.0 r.1.1.sides.first outside p.0) (reaches-side g h e i e.v r.1.0 r.1.1.sides.second outside p.1) in
      omega (arith, some', zero'))))))
]

-- the edges of the list by persistence at level 0
abbrev pub ground : WeightedGraph → Kind → EdgeList
ground g kind = at_most (persistence_edges (ranked g) (persistences_of g kind)) 0

ground-in : (g : WeightedGraph) (kind : Kind) (e : ListedEdge) → IsIn e (joins (ranked g)) → get_or (persistences_of g kind) (place (ranked g) e) 0 ≡ 0 → joined (ground g kind) e.u e.v ≡ true
ground-in g kind e i zero' =
    let p = persistences_of g kind in
    let f = by_persistence (ranked g) (persistences_of g kind) e in
    joined-ends (ground g kind) (by_persistence (ranked g) (persistences_of g kind) e)
    (at_most-from (persistence_edges (ranked g) (persistences_of g kind)) 0 (by_persistence (ranked g) (persistences_of g kind) e) (map-in (by_persistence (ranked g) (persistences_of g kind)) e (joins (ranked g)) i) (omega arith))

-- what level 0 joins, the trees join
pub ground-trees : (g : WeightedGraph) → IsGraph g → (kind : Kind) (x y : ℕ) → joined (ground g kind) x y ≡ true → joined (trees g.n (ranked g)) x y ≡ true
ground-trees g h kind x y j =
    let s = ranked g in
    let n = g.n in
    joined_into (ground g kind) (joined (trees g.n (ranked g))) (IsSame-joined (trees g.n (ranked g))) (λ f i.
    let a = at_most-to (persistence_edges (ranked g) (persistences_of g kind)) 0 f i in
    let e = in-map (by_persistence (ranked g) (persistences_of g kind)) f (joins (ranked g)) a.0 in
    let w : get_or (persistences_of g kind) (place (ranked g) e.0) 0 ≡ f.weight = ap (λ (k : ListedEdge). k.weight) e.1.1 in
    let light : f.weight ≤ 0 = a.1 in
    let kept = IsIn-joins_kept s e.0 e.1.0 in
    let member : IsIn e.0 (trees n s) = elim (zero-trees g h kind e.0 e.1.0 (omega arith)) [
      | inl forest ↦ IsIn-append e.0 (filter (is_forest n s) s) (minimum_edges s) (inl (IsIn-filter (is_forest n s) e.0 s forest kept.0))
      | inr least ↦ IsIn-append e.0 (filter (is_forest n s) s) (minimum_edges s) (inr (IsIn-filter (is_minimum s) e.0 s least kept.0))
    ] in
    subst (λ (k : ListedEdge). joined (trees g.n (ranked g)) k.u k.v ≡ true) e.1.1 (joined-ends (trees n s) e.0 member)) x y j

-- level 0 joins the ends of each minimum edge
minimum-ground : (g : WeightedGraph) → IsGraph g → (kind : Kind) (bound : ℕ) (e : ListedEdge) → e.rank < bound → IsMinimumEdge (ranked g) e → joined (ground g kind) e.u e.v ≡ true
minimum-ground g h kind zero e low m = absurd (omega arith)
minimum-ground g h kind (suc b) e low m = elim (cases_Bool (is_joining (ranked g) e)) [
  | inl joins' ↦
      let i = IsIn-joins (ranked g) e m.member joins' in
      ground-in g kind e i (minimum-zero g h kind e i (minimum-from (ranked g) e m))
  | inr off ↦
      let w = Joined-joined (below (ranked g) e.rank) e.u e.v (true_from_not off) in
      along (λ f l n. minimum-ground g h kind b f (omega arith) n) e.u w.0 e.v e m refl (inl refl) w.1
]
  where
    true_from_not : {p : Bool} → not p ≡ false → p ≡ true
    true_from_not {p} q = true_from_ne_false p (λ f. both_ways (not p) q (not_from_false p f))

    -- along a walk over edges before e from an end of a minimum edge of its weight
    along : ((f : ListedEdge) → f.rank < e.rank → IsMinimumEdge (ranked g) f → joined (ground g kind) f.u f.v ≡ true) →
        (x : ℕ) (zs : List ℕ) (y : ℕ) (d : ListedEdge) → IsMinimumEdge (ranked g) d → d.weight ≡ e.weight → IsEnd x d → IsWalk (below (ranked g) e.rank) x zs y → joined (ground g kind) x y ≡ true
    along rest x [] y d md wd ends w = subst (λ (z : ℕ). joined (ground g kind) x z ≡ true) w ((IsSame-joined (ground g kind)).self x)
    along rest x (z ∷ zs) y d md wd ends w =
        let s = ranked g in
        let f = w.0.0 in
        let k = IsIn-below_kept f s e.rank w.0.1.0 in
        let low' : f.rank < e.rank = k.1 in
        let light : f.weight ≤ e.weight = (of-graph g h).by_weight f e k.0 m.member low' in
        let heavy : d.weight ≤ f.weight = md.lowest x x f ends ([], refl) k.0 (step-first f x z w.0.1.1) in
        let same : f.weight ≡ d.weight = omega arith in
        let mf = minimum-next s d f x md ends k.0 same (step-first f x z w.0.1.1) in
        let own = rest f low' mf in
        let r = IsSame-joined (ground g kind) in
        let step : joined (ground g kind) x z ≡ true = elim w.0.1.1 [
          | inl p ↦ subst (λ (q : ℕ). joined (ground g kind) q z ≡ true) p.0 (subst (λ (q : ℕ). joined (ground g kind) f.u q ≡ true) p.1 own)
          | inr p ↦ r.back z x (subst (λ (q : ℕ). joined (ground g kind) q x ≡ true) p.1 (subst (λ (q : ℕ). joined (ground g kind) f.u q ≡ true) p.0 own))
        ] in
        r.on x z y step (along rest z zs y f mf (same ∙ wd) (step-second f x z w.0.1.1) w.1)

-- what the trees join, level 0 joins
pub trees-ground : (g : WeightedGraph) → IsGraph g → (kind : Kind) (x y : ℕ) → joined (trees g.n (ranked g)) x y ≡ true → joined (ground g kind) x y ≡ true
trees-ground g h kind x y j =
    let s = ranked g in
    let n = g.n in
    joined_into (trees g.n (ranked g)) (joined (ground g kind)) (IsSame-joined (ground g kind)) (λ e i. elim (IsIn-append_back e (filter (is_forest n s) s) (minimum_edges s) i) [
      | inl f ↦
          let k = IsIn-kept (is_forest n s) e s f in
          let p = and_parts (is_joining s e) (not (is_minimum s e) && not (reaches n s e.rank e.u && reaches n s e.rank e.v)) k.0 in
          let i' = IsIn-joins s e k.1 p.0 in
          ground-in g kind e i' (forest-zero g h kind e i' k.0)
      | inr m ↦ minimum-ground g h kind (suc e.rank) e (omega arith) (minimum_edges-to s e m)
    ]) x y j

-- what a hierarchy keeps to
pub record IsHierarchyOf (g : WeightedGraph) (kind : Kind) : Type 0 where
  pub apart : AreApart (persistence_edges (ranked g) (persistences_of g kind))
  pub within : AreWithin g.n (persistence_edges (ranked g) (persistences_of g kind))
  pub by_weight : AreByWeight (persistence_edges (ranked g) (persistences_of g kind))

pub hierarchy-list : (g : WeightedGraph) → IsGraph g → (kind : Kind) → IsHierarchyOf g kind
hierarchy-list g h kind =
    let o = of-graph g h in
    let long = persistences-length g kind in record {
      apart = hierarchy-apart (ranked g) o.apart (persistences_of g kind) long;
      within = hierarchy-within g.n (ranked g) o.within (persistences_of g kind);
      by_weight = hierarchy-by_weight (ranked g) o.apart (persistences_of g kind) long;
    }

pub hierarchy-forest : (g : WeightedGraph) → IsGraph g → (kind : Kind) → IsWellFormed (hierarchical_of g kind)
hierarchy-forest g h kind = let l = hierarchy-list g h kind in tree-well_formed g.n (persistence_edges (ranked g) (persistences_of g kind)) h.some_vertex h.vertices l.apart l.within

pub hierarchy-rises : (g : WeightedGraph) → IsGraph g → (kind : Kind) → AltitudesRise (hierarchical_of g kind)
hierarchy-rises g h kind = let l = hierarchy-list g h kind in tree-rises g.n (persistence_edges (ranked g) (persistences_of g kind)) l.apart l.by_weight

-- vertices share a node of altitude 0 exactly where they have one label
pub level-zero : (g : WeightedGraph) → IsGraph g → (kind : Kind) (x y : ℕ) → x < g.n → y < g.n → Shares (hierarchical_of g kind) 0 x y ↔ (tree_label g.n (ranked g) x ≡ tree_label g.n (ranked g) y)
level-zero g h kind x y hx hy =
    let s = ranked g in
    let n = g.n in
    let o = of-graph g h in
    let l = hierarchy-list g h kind in
    let levels = level-tree g.n (persistence_edges (ranked g) (persistences_of g kind)) l.apart l.within l.by_weight in
    let shared = shares-joined (hierarchical_of g kind) (persistence_edges (ranked g) (persistences_of g kind)) levels 0 x y hx hy in
    let labels = tree-label_same n s o.apart o.within x y hx hy in (
      λ sh. labels.1 (Joined-joined (trees n s) x y (ground-trees g h kind x y (holds (ground g kind) x y (shared.0 sh)))),
      λ same. shared.1 (Joined-joined (ground g kind) x y (trees-ground g h kind x y (holds (trees n s) x y (labels.0 same)))),
    )
