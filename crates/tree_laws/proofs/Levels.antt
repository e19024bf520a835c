-- The tree of an edge list whose weights don't fall with the rank: its nodes tell who is joined by the edges of weight at most k.
use Rattle.std.proofs.Common.{◌≡◌, ℕ, suc, ◌<◌, ◌≤◌, true, ◌⊎◌, inl, inr, refl, sym, ◌∙◌, subst, ap, arith, [], ◌∷◌}
use Rattle.std.specs.Prelude.{nat_le}
use Rattle.std.proofs.lemmas.Bool.{cases_lt, le-leb, leb-true}
use Rattle.edge_laws.specs.Edges.{ListedEdge, EdgeList, AreApart, AreWithin, Joined, joined, below}
use Rattle.hg_base.specs.Lists.{IsIn}
use Rattle.tree_laws.specs.Tree.{IsAbove, ancestor, altitude, tree_of}
use Rattle.edge_laws.specs.Saliency.{at_most, AreByWeight}
use Rattle.tree_laws.specs.Levels.{IsLevelTree}
use Rattle.edge_laws.proofs.Walks.{IsSame-joined, Joined-joined}
use Rattle.hg_base.proofs.Lists.{IsIn-filter, IsIn-kept}
use Rattle.edge_laws.proofs.Members.{IsIn-below, IsIn-below_kept}
use Rattle.edge_laws.proofs.Sets.{joined-among, joined_below-more, IsIn-joins_kept}
use Rattle.edge_laws.proofs.Fronts.{joined-first_front}
use Rattle.edge_laws.proofs.Drops.{holds}
use Rattle.tree_laws.proofs.Paths.{IsIn-joins_made, ancestor-path}
use Rattle.tree_laws.proofs.FrontTree.{above-made, front-component}
use Rattle.tree_laws.proofs.FrontOnce.{IsLeafOrMade, leaf_or_made, leaf-alone, below-ends, ends-apart, node-one}
use Rattle.tree_laws.proofs.Meeting.{altitude-leaf, altitude-inner}
use Rattle.edge_laws.proofs.Meeting.{up_to-weight}

-- the edge of greatest rank among those of weight at most k
pub record LastOfWeight (s : EdgeList) (k : ℕ) : Type 0 where
  pub edge : ListedEdge
  pub member : IsIn edge s
  pub light : edge.weight ≤ k
  pub last : (f : ListedEdge) → IsIn f s → f.weight ≤ k → f.rank ≤ edge.rank

-- no edge weighs at most k
abbrev pub NoneOfWeight : EdgeList → ℕ → Type 0
NoneOfWeight s k = (f : ListedEdge) → IsIn f s → f.weight ≤ k → ⊥

last_of_weight : (s : EdgeList) (k : ℕ) → LastOfWeight s k ⊎ NoneOfWeight s k
last_of_weight [] k = inr (λ f i w. i)
last_of_weight (e ∷ s) k = elim (cases_lt k e.weight) [ inl heavy ↦ passed heavy (last_of_weight s k) | inr light ↦ inl (counted light (last_of_weight s k)) ]
  where
    not_first : k < e.weight → (f : ListedEdge) → IsIn f (e ∷ s) → f.weight ≤ k → IsIn f s
    not_first heavy f (inl same) w = absurd (let q : e.weight ≡ f.weight = ap (λ (x : ListedEdge). x.weight) same in omega arith)
    not_first heavy f (inr later) w = later

    passed : k < e.weight → LastOfWeight s k ⊎ NoneOfWeight s k → LastOfWeight (e ∷ s) k ⊎ NoneOfWeight (e ∷ s) k
    passed heavy (inl l) = inl (record { edge = l.edge; member = inr l.member; light = l.light; last = λ f i w. l.last f (not_first heavy f i w) w })
    passed heavy (inr none') = inr (λ f i w. none' f (not_first heavy f i w) w)

    first_last : ((f : ListedEdge) → IsIn f s → f.weight ≤ k → f.rank ≤ e.rank) → (f : ListedEdge) → IsIn f (e ∷ s) → f.weight ≤ k → f.rank ≤ e.rank
    first_last rest f (inl same) w = let q : e.rank ≡ f.rank = ap (λ (x : ListedEdge). x.rank) same in omega arith
    first_last rest f (inr later) w = rest f later w

    other_last : (l : LastOfWeight s k) → e.rank ≤ l.edge.rank → (f : ListedEdge) → IsIn f (e ∷ s) → f.weight ≤ k → f.rank ≤ l.edge.rank
    other_last l le f (inl same) w = let q : e.rank ≡ f.rank = ap (λ (x : ListedEdge). x.rank) same in omega arith
    other_last l le f (inr later) w = l.last f later w

    counted : e.weight ≤ k → LastOfWeight s k ⊎ NoneOfWeight s k → LastOfWeight (e ∷ s) k
    counted light (inl l) = elim (cases_lt l.edge.rank e.rank) [
      | inl lower ↦ record { edge = e; member = inl refl; light = light; last = first_last (λ f i w. omega (arith, lower, l.last f i w)) }
      | inr higher ↦ record { edge = l.edge; member = inr l.member; light = l.light; last = other_last l higher }
    ]
    counted light (inr none') = record { edge = e; member = inl refl; light = light; last = first_last (λ f i w. absurd (none' f i w)) }

-- whom the edges up to z's rank join, those of at most its weight join too
pub joined-by_weight : (s : EdgeList) → AreApart s → AreByWeight s → (z : ListedEdge) → IsIn z s → (x y : ℕ) → joined (below s (suc z.rank)) x y ≡ true → Joined (at_most s z.weight) x y
joined-by_weight s h by z i x y j =
    Joined-joined (at_most s z.weight) x y
    (joined-among (below s (suc z.rank)) (at_most s z.weight) x y
    (λ f m. (let p = IsIn-below_kept f s (suc z.rank) m in
    IsIn-filter (λ e. nat_le e.weight z.weight) f s (le-leb f.weight z.weight (up_to-weight s h by z i f p.0 p.1)) p.0))
    j)

-- the leaves below a node are joined by edges that weigh no more than its altitude
node-joins : (n : ℕ) (s : EdgeList) → AreApart s → AreByWeight s → (i x y : ℕ) → x < n → y < n → IsLeafOrMade n s i → IsAbove (tree_of n s) i x → IsAbove (tree_of n s) i y →
    Joined (at_most s (altitude (tree_of n s) i)) x y
node-joins n s h by i x y lx ly (inl leaf) a b = ([], sym (leaf-alone n s h i x leaf lx a) ∙ leaf-alone n s h i y leaf ly b)
node-joins n s h by i x y lx ly (inr made) a b =
    let e = made.0 in
    let kept = IsIn-joins_kept s e made.1.0 in
    let same = IsSame-joined (below s (suc e.rank)) in
    let to_x = (above-made n s h e kept.0 kept.1 x lx).0 (subst (λ (j : ℕ). IsAbove (tree_of n s) j x) (sym made.1.1) a) in
    let to_y = (above-made n s h e kept.0 kept.1 y ly).0 (subst (λ (j : ℕ). IsAbove (tree_of n s) j y) (sym made.1.1) b) in
    let high : altitude (tree_of n s) i ≡ e.weight = ap (altitude (tree_of n s)) (sym made.1.1) ∙ altitude-inner n s h e made.1.0 in
    subst (λ (k : ℕ). Joined (at_most s k) x y) (sym high) (joined-by_weight s h by e kept.0 x y (same.on x e.u y to_x (same.back y e.u to_y)))

-- a node whose leaves the edges of rank up to z's join is no higher than z's weight
node-low : (n : ℕ) (s : EdgeList) → AreApart s → AreWithin n s → AreByWeight s → (z : ListedEdge) → IsIn z s → (x i : ℕ) → IsLeafOrMade n s i →
    ((y : ℕ) → y < n → IsAbove (tree_of n s) i y → Joined (below s (suc z.rank)) x y) → altitude (tree_of n s) i ≤ z.weight
node-low n s h within by z iz x i (inl leaf) below_i = let flat : altitude (tree_of n s) i ≡ 0 = altitude-leaf n s i leaf in omega arith
node-low n s h within by z iz x i (inr made) below_i =
    let e = made.0 in
    let kept = IsIn-joins_kept s e made.1.0 in
    let ends = below-ends n s h within e made.1.0 in
    let same = IsSame-joined (below s (suc z.rank)) in
    let u = holds (below s (suc z.rank)) x e.u (below_i e.u (within e kept.0).0 (subst (λ (j : ℕ). IsAbove (tree_of n s) j e.u) made.1.1 ends.0)) in
    let v = holds (below s (suc z.rank)) x e.v (below_i e.v (within e kept.0).1 (subst (λ (j : ℕ). IsAbove (tree_of n s) j e.v) made.1.1 ends.1)) in
    let both : joined (below s (suc z.rank)) e.u e.v ≡ true = same.on e.u x e.v (same.back x e.u u) v in
    let high : altitude (tree_of n s) i ≡ e.weight = ap (altitude (tree_of n s)) (sym made.1.1) ∙ altitude-inner n s h e made.1.0 in
    elim (cases_lt e.rank (suc z.rank)) [
      | inl low ↦ omega (arith, high, up_to-weight s h by z iz e kept.0 low)
      | inr late ↦ absurd (ends-apart s e made.1.0 (joined_below-more s (suc z.rank) e.rank e.u e.v late both))
    ]

-- a node of altitude at most k is above all that the edges of weight at most k join to x
node-above : (n : ℕ) (s : EdgeList) → AreApart s → AreWithin n s → AreByWeight s → (k x : ℕ) → x < n →
    (i : ℕ) × ((altitude (tree_of n s) i ≤ k) × ((y : ℕ) → y < n → Joined (at_most s k) x y → IsAbove (tree_of n s) i y))
node-above n s h within by k x lt = elim (last_of_weight s k) [ inl z ↦ some z | inr none' ↦ alone none' ]
  where
    Found : Type 0
    Found = (i : ℕ) × ((altitude (tree_of n s) i ≤ k) × ((y : ℕ) → y < n → Joined (at_most s k) x y → IsAbove (tree_of n s) i y))

    -- the edges of weight at most k are among those of rank below r
    among : (r y : ℕ) → ((f : ListedEdge) → IsIn f s → f.weight ≤ k → f.rank < r) → Joined (at_most s k) x y → joined (below s r) x y ≡ true
    among r y early j =
        joined-among (at_most s k) (below s r) x y
        (λ f i. (let p = IsIn-kept (λ (e : ListedEdge). nat_le e.weight k) f s i in IsIn-below f s r p.1 (early f p.1 (leb-true f.weight k p.0))))
        (holds (at_most s k) x y j)

    alone : NoneOfWeight s k → Found
    alone none' = (
      x,
      (
        let flat : altitude (tree_of n s) x ≡ 0 = altitude-leaf n s x lt in omega arith,
        λ y ly j. (0, sym (joined-first_front s x y (among 0 y (λ f i w. absurd (none' f i w)) j))),
      ),
    )

    some : LastOfWeight s k → Found
    some z =
        let node = front-component n s h (suc z.edge.rank) x lt in
        let low : altitude (tree_of n s) node.0 ≤ z.edge.weight = node-low n s h within by z.edge z.member x node.0 (leaf_or_made n s h node.0 node.1.0) (λ y ly a. (node.1.1 y ly).0 a) in (
          node.0,
          (
            omega (arith, low, z.light),
            λ y ly j. (node.1.1 y ly).1 (Joined-joined (below s (suc z.edge.rank)) x y (among (suc z.edge.rank) y (λ f i w. let le : f.rank ≤ z.edge.rank = z.last f i w in omega arith) j)),
          ),
        )

-- The tree of an edge list whose weights don't fall with the rank is a level tree.
pub level-tree : (n : ℕ) (s : EdgeList) → AreApart s → AreWithin n s → AreByWeight s → IsLevelTree (tree_of n s) s
level-tree n s h within by = record {
  joined_below = λ i x y lx ly a b. node-joins n s h by i x y lx ly (on_path i x lx a) a b;
  one_above = node-above n s h within by;
  some_leaf = λ i lt. leaf_below i (leaf_or_made n s h i lt);
  once = λ i j li lj same. node-one n s h within i j (leaf_or_made n s h i li) (leaf_or_made n s h j lj) (λ y ly a. (same y ly).0 a) (λ y ly a. (same y ly).1 a);
}
  where
    on_path : (i x : ℕ) → x < n → IsAbove (tree_of n s) i x → IsLeafOrMade n s i
    on_path i x lx a =
        elim (ancestor-path n s h x lx a.0) [
          | inl leaf ↦ inl (let q : i ≡ x = sym a.1 ∙ leaf in omega arith)
          | inr made ↦ inr (made.0, (IsIn-joins_made n s x (ancestor (tree_of n s) a.0 x) made.0 made.1, sym made.1.node ∙ a.1))
        ]

    leaf_below : (i : ℕ) → IsLeafOrMade n s i → (x : ℕ) × ((x < n) × IsAbove (tree_of n s) i x)
    leaf_below i (inl leaf) = (i, (leaf, (0, refl)))
    leaf_below i (inr made) =
        let kept = IsIn-joins_kept s made.0 made.1.0 in
        (made.0.u, ((within made.0 kept.0).0, subst (λ (j : ℕ). IsAbove (tree_of n s) j made.0.u) made.1.1 (below-ends n s h within made.0 made.1.0).0))
