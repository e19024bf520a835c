-- The lowest node that holds a minimum: its vertices are those of the minimum.
use Rattle.std.proofs.Common.{◌≡◌, ◌≢◌, ℕ, suc, ◌-◌, ◌<◌, ◌≤◌, inl, inr, refl, sym, ◌∙◌, subst, ap, arith, [], length}
use Rattle.std.specs.Prelude.{nat_le}
use Rattle.std.proofs.lemmas.Bool.{cases_lt, cases_order, and_parts, cond-true, cond-false, true_from_ne_false}
use Rattle.hg_base.specs.Graph.{WeightedGraph, IsGraph, first_end, second_end}
use Rattle.edge_laws.specs.Edges.{ListedEdge, EdgeList, Joined, below, joins}
use Rattle.hg_base.specs.Lists.{IsIn}
use Rattle.hg_base.specs.Counting.{count_below, is_least}
use Rattle.hg_base.specs.Labels.{IsLabel, least_of}
use Rattle.edge_laws.specs.Rank.{ranked}
use Rattle.edge_laws.specs.Saliency.{at_most}
use Rattle.tree_laws.specs.Tree.{ParentTree, parent, altitude, IsAbove, graph_tree}
use Rattle.tree_laws.proofs.Climbs.{above-on, above-either, above-within, above-same}
use Rattle.hg_base.proofs.Counts.{is_least-to}
use Rattle.edge_laws.proofs.Drops.{holds}
use Rattle.tree_laws.proofs.FrontOnce.{ends-apart}
use Rattle.edge_laws.proofs.Fronts.{apart-one}
use Rattle.hg_base.proofs.Leasts.{least_of-fresh}
use Rattle.edge_laws.proofs.Members.{IsIn-below}
use Rattle.hg_base.proofs.Lists.{IsIn-kept}
use Rattle.edge_laws.proofs.Ranked.{edge-there, ends-within}
use Rattle.edge_laws.proofs.Sets.{IsIn-joins_kept, joined-among}
use Rattle.tree_laws.proofs.Tops.{top_found, top-parent}
use Rattle.partition_tree.proofs.ChildLemmas.{count-nth}
use Rattle.watershed_cut.specs.Minima.{level, IsMinimumEdge, InMinimum}
use Rattle.watershed_cut.specs.MinimumTests.{in_minimum, same_minimum, is_head, minimum_count, vertex_label}
use Rattle.watershed_cut.specs.Plateaus.{IsPlateau}
use Rattle.watershed_cut.proofs.MinimumWalks.{in_minimum-to, in_minimum-from, same_minimum-to, same_minimum-from, minimum-next, plateau-walk, level-to, stays}
use Rattle.watershed_cut.proofs.PlateauKeys.{same-plateau}
use Rattle.watershed_cut.proofs.PlateauLaws.{IsLevelled, top-below, leaf-node, minimum-leaf}
use Rattle.watershed_cut.proofs.MinimumByWeight.{quiet-walk}
use Rattle.watershed_cut.proofs.TreeLabels.{same-self, label-equal, label-same, label-range}
use Rattle.watershed_cut.proofs.LabelLemmas.{graph-levelled}
use Rattle.extinction.proofs.TreeFacts.{IsOfGraph, of-graph}

-- the tree of a graph tells who is joined at each level
pub levelled : (g : WeightedGraph) → IsGraph g → IsLevelled (graph_tree g) (ranked g)
levelled g h = graph-levelled g (graph_tree g) refl (of-graph g h).well_formed (λ e he.
    let ends = ends-within g h e he in record { first = ends.0; second = ends.1; apart = two g h e he })
  where
    two : (g : WeightedGraph) → IsGraph g → (e : ℕ) → e < length g.edges → first_end g e ≢ second_end g e
    two g h e he same =
        let there = edge-there g h e he in
        there.1.1.apart (rw there.1.0 at same)

-- the vertices below node q are those with this label
pub record IsBottom (g : WeightedGraph) (label q : ℕ) : Type 0 where
  pub node : q < length (graph_tree g).parents
  pub only : (x : ℕ) → x < g.n → IsAbove (graph_tree g) q x → vertex_label g.n (ranked g) x ≡ label
  pub all : (x : ℕ) → x < g.n → vertex_label g.n (ranked g) x ≡ label → IsAbove (graph_tree g) q x

-- a vertex with a label is in a minimum
pub labelled-member : (n : ℕ) (s : EdgeList) (x : ℕ) → 1 ≤ vertex_label n s x → InMinimum n s x
labelled-member n s x h = in_minimum-to n s x (true_from_ne_false (in_minimum n s x) (λ off.
    let zero' : vertex_label n s x ≡ 0 = cond-false (in_minimum n s x) _ _ off in omega arith))

-- the plateau of the parent of a vertex in a minimum is the lowest node of the minimum
pub bottom-of : (g : WeightedGraph) → IsGraph g → (x : ℕ) → InMinimum g.n (ranked g) x → (q : ℕ) × (IsBottom g (vertex_label g.n (ranked g) x) q × IsPlateau (graph_tree g) (parent (graph_tree g) x) q)
bottom-of g h x mx = (q, (record { node = above-within t o.climbs q (parent t x) hp top.above; only = only; all = all }, top))
  where
    t : ParentTree
    t = graph_tree g

    s : EdgeList
    s = ranked g

    n : ℕ
    n = g.n

    o : IsOfGraph g
    o = of-graph g h

    l : IsLevelled (graph_tree g) (ranked g)
    l = levelled g h

    hx : x < g.n
    hx = mx.vertex

    hp : parent t x < length t.parents
    hp = o.climbs.within x (leaf-node t o.well_formed x hx)

    found : (y : ℕ) → y < g.n → (j : ℕ) × IsPlateau t (parent t y) j
    found y hy = top_found t o.climbs (altitude t (parent t y)) (length t.parents) (parent t y) (o.climbs.within y (leaf-node t o.well_formed y hy)) (omega arith) (omega arith)

    q : ℕ
    q = (found x hx).0

    top : IsPlateau t (parent t x) q
    top = (found x hx).1

    only : (y : ℕ) → y < g.n → IsAbove t q y → vertex_label n s y ≡ vertex_label n s x
    only y hy a =
        let k = altitude t (parent t x) in
        let w = top-below t s l k x q y hx hy (top-parent t k x q top) a in
        elim mx.either [
          | inl none' ↦ ap (vertex_label n s) (sym (stays s (at_most s k) x w.0 y none' (λ e i. (IsIn-kept (λ (f : ListedEdge). nat_le f.weight k) e s i).1) w.1))
          | inr e ↦
              let f = minimum-leaf t s l e.0 x e.1.0 e.1.1 in
              let v : Joined (at_most s e.0.weight) x y = subst (λ (j : ℕ). Joined (at_most s j) x y) f.level w in
              let u = quiet-walk s e.0.weight e.0 x v.0 y e.1.0 refl e.1.1 v.1 in
              let p = plateau-walk s e.0.weight e.0 x v.0 y e.1.0 refl e.1.1 u in
              sym (label-equal n s x y (same_minimum-from n s x y (record { first = mx; second = record { vertex = hy; either = inr (p.edge, (p.minimum, p.at)) }; joined = inr (e.0, ((e.1.0, e.1.1), (v.0, u))) })))
        ]

    all : (y : ℕ) → y < g.n → vertex_label n s y ≡ vertex_label n s x → IsAbove t q y
    all y hy same =
        let some' : 1 ≤ vertex_label n s x = (label-range n s x (in_minimum-from n s x mx)).positive in
        let my = labelled-member n s y (omega arith) in
        let m = same_minimum-to n s x y (label-same n s x y (in_minimum-from n s x mx) (in_minimum-from n s y my) (sym same)) in
        let j = found y hy in
        let one : q ≡ j.0 = same-plateau t s l x y q j.0 hx hy top j.1 m in
        subst (λ (k : ℕ). IsAbove t k y) (sym one) (top-parent t (altitude t (parent t y)) y j.0 j.1).above

-- each label has a lowest node
pub bottom-label : (g : WeightedGraph) → IsGraph g → (label : ℕ) → IsLabel (minimum_count g.n (ranked g)) label → (q : ℕ) × IsBottom g label q
bottom-label g h label is =
    let n = g.n in
    let s = ranked g in
    let low : 1 ≤ label = is.positive in
    let high : label ≤ minimum_count g.n (ranked g) = is.most in
    let found = count-nth (is_head g.n (ranked g)) g.n (label - 1) (omega arith) in
    let x = found.0 in
    let head = and_parts (in_minimum n s x) (is_least (same_minimum n s) x) found.1.1.0 in
    let own : least_of (same_minimum n s) x ≡ x = least_of-fresh (same_minimum n s) x (same-self n s x head.0) (is_least-to (same_minimum n s) x head.1) in
    let its : vertex_label n s x ≡ label =
    cond-true (in_minimum n s x) _ _ head.0 ∙ ap (λ (z : ℕ). suc (count_below (is_head n s) z)) own ∙ (let e : count_below (is_head n s) x ≡ label - 1 = found.1.1.1 in omega arith) in
    let b = bottom-of g h x (in_minimum-to n s x head.0) in
    (b.0, subst (λ (k : ℕ). IsBottom g k b.0) its b.1.0)

-- a vertex below a lowest node
bottom-leaf : (g : WeightedGraph) → IsGraph g → (label q : ℕ) → IsBottom g label q → (x : ℕ) × ((x < g.n) × IsAbove (graph_tree g) q x)
bottom-leaf g h label q b = (of-graph g h).levels.some_leaf q b.node

-- a node is above all vertices of a label exactly where it is above the lowest node
pub over-bottom : (g : WeightedGraph) → IsGraph g → (label q i : ℕ) → IsBottom g label q → i < length (graph_tree g).parents → ((x : ℕ) → x < g.n → vertex_label g.n (ranked g) x ≡ label → IsAbove (graph_tree g) i x) → IsAbove (graph_tree g) i q
over-bottom g h label q i b hi over =
    let t = graph_tree g in
    let o = of-graph g h in
    let x = bottom-leaf g h label q b in
    let a : IsAbove (graph_tree g) i x.0 = over x.0 x.1.0 (b.only x.0 x.1.0 x.1.1) in
    elim (above-either (graph_tree g) i q x.0 a x.1.1) [
      | inl up ↦ up
      | inr down ↦ (0, sym (o.levels.once i q hi b.node (λ y hy. (λ c. above-on (graph_tree g) q i y down c, λ c. over y hy (b.only y hy c)))))
    ]

pub bottom-over : (g : WeightedGraph) (label q i : ℕ) → IsBottom g label q → IsAbove (graph_tree g) i q → (x : ℕ) → x < g.n → vertex_label g.n (ranked g) x ≡ label → IsAbove (graph_tree g) i x
bottom-over g label q i b up x hx same = above-on (graph_tree g) i q x up (b.all x hx same)

-- a lowest node has one label
pub bottom-one : (g : WeightedGraph) → IsGraph g → (l k q : ℕ) → IsBottom g l q → IsBottom g k q → l ≡ k
bottom-one g h l k q a b = let x = bottom-leaf g h l q a in sym (a.only x.0 x.1.0 x.1.1) ∙ b.only x.0 x.1.0 x.1.1

-- the lowest nodes of one label are one
pub bottom-same : (g : WeightedGraph) → IsGraph g → (label q r : ℕ) → IsBottom g label q → IsBottom g label r → q ≡ r
bottom-same g h label q r a b =
    above-same (graph_tree g) (of-graph g h).climbs q r a.node b.node (over-bottom g h label r q b a.node a.all) (over-bottom g h label q r a b.node b.all)

-- an edge that joins two vertices of one minimum is a minimum edge
pub inside-minimum : (g : WeightedGraph) → IsGraph g → (e : ListedEdge) → IsIn e (joins (ranked g)) → (label : ℕ) → 1 ≤ label →
    vertex_label g.n (ranked g) e.u ≡ label → vertex_label g.n (ranked g) e.v ≡ label → IsMinimumEdge (ranked g) e
inside-minimum g h e i label some' lu lv =
    let s = ranked g in
    let n = g.n in
    let o = of-graph g h in
    let kept = IsIn-joins_kept s e i in
    let mu = labelled-member n s e.u (omega arith) in
    let mv = labelled-member n s e.v (omega arith) in
    let m = same_minimum-to n s e.u e.v (label-same n s e.u e.v (in_minimum-from n s e.u mu) (in_minimum-from n s e.v mv) (lu ∙ sym lv)) in
    elim m.joined [
      | inl same ↦ absurd ((levelled g h).apart e kept.0 same)
      | inr f ↦
          let w = f.0.weight in
          let light : f.0.weight ≤ e.weight = f.1.0.0.lowest e.u e.u e f.1.0.1 ([], refl) kept.0 (inl refl) in
          minimum-next s f.0 e e.u f.1.0.0 f.1.0.1 kept.0 (elim (cases_lt w e.weight) [
            | inl lower ↦ absurd (ends-apart s e i (joined-among (level s w) (below s e.rank) e.u e.v (λ k j. before k j lower) (holds (level s w) e.u e.v f.1.1)))
            | inr heavy ↦ omega arith
          ]) (inl refl)
    ]
  where
    before : (k : ListedEdge) → {w : ℕ} → IsIn k (level (ranked g) w) → w < e.weight → IsIn k (below (ranked g) e.rank)
    before k {w} j lower =
        let p = level-to (ranked g) w k j in
        let kept = IsIn-joins_kept (ranked g) e i in
        IsIn-below k (ranked g) e.rank p.0 (elim (cases_order k.rank e.rank) [
          | inl level' ↦ absurd (let same : k.weight ≡ e.weight = ap (λ (x : ListedEdge). x.weight) (apart-one (ranked g) (of-graph g h).apart k e p.0 kept.0 level') in let own : k.weight ≡ w = p.1 in omega arith)
          | inr other ↦ elim other [
            | inl low ↦ low
            | inr high ↦ absurd (let rises : e.weight ≤ k.weight = (of-graph g h).by_weight e k kept.0 p.0 high in let own : k.weight ≡ w = p.1 in omega arith)
          ]
        ])
