-- What the passes build is the min tree: the nodes are the components up to each level, each once, with levels, numbers
-- and parents as they are to be.
use Rattle.std.proofs.Common.{◌≡◌, ◌≢◌, ℕ, ◌+◌, ◌-◌, ◌<◌, ◌≤◌, true, ◌⊎◌, inl, inr, refl, sym, ◌∙◌, subst, ap, arith, List, length, get_or}
use Rattle.std.proofs.lemmas.Bool.{cases_lt, cases_order, cases_eq, cases_Bool, le-leb, leb-true}
use Rattle.edge_laws.specs.Edges.{EdgeList, component, Joined, joined}
use Rattle.hg_base.specs.Lists.{IsIn}
use Rattle.tree_laws.specs.Tree.{ParentTree, parent, ancestor, IsAbove}
use Rattle.edge_laws.specs.Saliency.{at_most}
use Rattle.edge_laws.proofs.Sets.{same_test}
use Rattle.tree_laws.proofs.Climbs.{above-on, above-next, above-either, above-parent, ancestor-root}
use Rattle.component_tree.specs.declared.side.Side.TheVariants.{Min}
use Rattle.component_tree.specs.declared.nodes.Component.{Component}
use Rattle.component_tree.specs.Components.{ComponentLists, IsComponentNode, IsComponentTree, IsEarlier, Includes, inside, parent_of, level_of}
use Rattle.component_tree.specs.NodeComponents.{is_component, component_at, AreLeasts, AreComponents, ArePlaces}
use Rattle.component_tree.proofs.Members.{IsIn-passing, passing-in, passing-agree, passing-first}
use Rattle.component_tree.proofs.Reach.{reach-joined, joined-reach}
use Rattle.component_tree.proofs.Floods.{IsFlood, level, level-rises, level-along, value-low, below-joined, joined-below, component-cases, IsNodeOf, node_of-found, below-node_of, nodes-one}

-- What the passes give, and the lists that they are put into.
pub record IsBuilt (t : ParentTree) (f : ℕ → ℕ) (s : EdgeList) (levels leasts : List ℕ) (list : List Component) (places : List ℕ) (tree : ComponentLists) : Type 0 where
  pub flood : IsFlood t f s levels
  pub leasts_are : AreLeasts t leasts
  pub components : AreComponents t levels leasts list
  pub places_are : ArePlaces t levels list places
  pub leaves : tree.leaves ≡ t.leaves
  pub parents_long : length tree.parents ≡ t.leaves + length list
  pub levels_long : length tree.levels ≡ t.leaves + length list
  pub leaf_level : (x : ℕ) → x < t.leaves → level_of tree x ≡ f x
  pub node_level : (k : ℕ) → k < length list → level_of tree (t.leaves + k) ≡ (component_at list k).level
  pub leaf_parent : (x : ℕ) → x < t.leaves → parent_of tree x ≡ t.leaves + get_or places x 0
  pub node_parent : (k : ℕ) → k < length list → parent_of tree (t.leaves + k) ≡ t.leaves + get_or places (parent t (component_at list k).node) 0

module _ (t : ParentTree) (f : ℕ → ℕ) (s : EdgeList) (levels leasts : List ℕ) (list : List Component) (places : List ℕ) (tree : ComponentLists) (b : IsBuilt t f s levels leasts list places tree) where
  abbrev node_at : ℕ → ℕ
  node_at k = (component_at list k).node

  abbrev lvl : ℕ → ℕ
  lvl k = (component_at list k).level

  abbrev lst : ℕ → ℕ
  lst k = (component_at list k).least

  -- the vertices of the component at a place
  abbrev verts : ℕ → List ℕ
  verts k = component t.leaves (inside Min f s (lvl k)) (lst k)

  node_in : (k : ℕ) → k < length list → node_at k < length t.parents
  node_in k h = b.components.node k h

  is_at : (k : ℕ) → k < length list → is_component t levels (node_at k) ≡ true
  is_at k h = b.components.is k h

  lvl_is : (k : ℕ) → k < length list → lvl k ≡ level levels (node_at k)
  lvl_is k h = ap (λ (c : Component). c.level) (b.components.each k h)

  lst_is : (k : ℕ) → k < length list → lst k ≡ get_or leasts (node_at k) 0
  lst_is k h = ap (λ (c : Component). c.least) (b.components.each k h)

  lst_leaf : (k : ℕ) → k < length list → lst k < t.leaves
  lst_leaf k h = subst (λ (x : ℕ). x < t.leaves) (sym (lst_is k h)) (b.leasts_are.leaf (node_at k) (node_in k h))

  lst_below : (k : ℕ) → k < length list → IsAbove t (node_at k) (lst k)
  lst_below k h = subst (λ (x : ℕ). IsAbove t (node_at k) x) (sym (lst_is k h)) (b.leasts_are.below (node_at k) (node_in k h))

  lst_least : (k y : ℕ) → k < length list → y < t.leaves → IsAbove t (node_at k) y → lst k ≤ y
  lst_least k y h hy a = let l : get_or leasts (node_at k) 0 ≤ y = b.leasts_are.least (node_at k) y (node_in k h) hy a in omega (arith, lst_is k h, l)

  -- what the level joins to the least vertex is below the node, and the other way round
  reach-below : (k y : ℕ) → k < length list → y < t.leaves → joined (inside Min f s (lvl k)) (lst k) y ≡ true → IsAbove t (node_at k) y
  reach-below k y h hy r =
      joined-below t f s levels b.flood (node_at k) (lst k) y (node_in k h) (is_at k h) (lst_leaf k h) hy (lst_below k h)
      (subst (λ (m : ℕ). Joined (at_most s m) (lst k) y) (lvl_is k h) (reach-joined f s (lvl k) (lst k) y b.flood.weights r))

  below-reach : (k y : ℕ) → k < length list → y < t.leaves → IsAbove t (node_at k) y → joined (inside Min f s (lvl k)) (lst k) y ≡ true
  below-reach k y h hy a =
      joined-reach f s (lvl k) (lst k) y b.flood.weights
      (subst (λ (m : ℕ). Joined (at_most s m) (lst k) y) (sym (lvl_is k h)) (below-joined t f s levels b.flood (node_at k) (lst k) y (node_in k h) (lst_leaf k h) hy (lst_below k h) a))

  has-to : (k y : ℕ) → k < length list → IsIn y (verts k) → (y < t.leaves) × IsAbove t (node_at k) y
  has-to k y h i =
      let p = IsIn-passing (joined (inside Min f s (lvl k)) (lst k)) t.leaves y i in
      (p.low, reach-below k y h p.low p.passes)

  has-from : (k y : ℕ) → k < length list → y < t.leaves → IsAbove t (node_at k) y → IsIn y (verts k)
  has-from k y h hy a = passing-in (joined (inside Min f s (lvl k)) (lst k)) t.leaves y (record { low = hy; passes = below-reach k y h hy a })

  has-least : (k : ℕ) → k < length list → IsIn (lst k) (verts k)
  has-least k h = has-from k (lst k) h (lst_leaf k h) (lst_below k h)

  -- the first of them is the least vertex
  verts-first : (k : ℕ) → k < length list → get_or (verts k) 0 0 ≡ lst k
  verts-first k h =
      let r = joined (inside Min f s (lvl k)) (lst k) in
      passing-first r t.leaves (lst k) (lst_leaf k h) (below-reach k (lst k) h (lst_leaf k h) (lst_below k h))
      (λ y lt. elim (cases_Bool (r y)) [
        | inl on ↦ absurd (let hy : y < t.leaves = omega (arith, lt, lst_leaf k h) in omega (arith, lt, lst_least k y h hy (reach-below k y h hy on)))
        | inr off ↦ off
      ])

  -- no two places have one node
  index-one : (k l : ℕ) → k < length list → l < length list → node_at k ≡ node_at l → k ≡ l
  index-one k l hk hl same =
      elim (cases_order k l) [
        | inl level ↦ level
        | inr other ↦ elim other [ inl low ↦ absurd (b.components.once k l low hl same) | inr high ↦ absurd (b.components.once l k high hk (sym same)) ]
      ]

  -- nor the same vertices
  verts-one : (k l : ℕ) → k < length list → l < length list → ((y : ℕ) → IsIn y (verts k) → IsIn y (verts l)) → ((y : ℕ) → IsIn y (verts l) → IsIn y (verts k)) → k ≡ l
  verts-one k l hk hl on back =
      index-one k l hk hl (b.flood.tree.once (node_at k) (node_at l) (node_in k hk) (node_in l hl) (λ y hy. (
        λ a. (has-to l y hl (on y (has-from k y hk hy a))).1,
        λ a. (has-to k y hk (back y (has-from l y hl hy a))).1,
      )))

  -- components of one level with a vertex in common are one
  level-one : (k l x : ℕ) → k < length list → l < length list → lvl k ≡ lvl l → x < t.leaves → IsAbove t (node_at k) x → IsAbove t (node_at l) x → k ≡ l
  level-one k l x hk hl same hx a c =
      index-one k l hk hl
      (nodes-one t f s levels b.flood (node_at k) (node_at l) x (node_in k hk) (node_in l hl) (is_at k hk) (is_at l hl) (sym (lvl_is k hk) ∙ same ∙ lvl_is l hl) hx a c)

  -- levels rise with the places
  order-at : (k l : ℕ) → k < l → l < length list → lvl k ≤ lvl l
  order-at k l lt hl = (b.components.in_order k l lt hl).level

  earlier : (k l : ℕ) → k < l → l < length list → (lvl k < lvl l) ⊎ ((lvl k ≡ lvl l) × (lst k < lst l))
  earlier k l lt hl =
      let hk : k < length list = omega arith in
      let up = order-at k l lt hl in
      elim (cases_eq (lvl k) (lvl l)) [
        | inr differ ↦ inl (grind (arith, up, differ))
        | inl same ↦ inr (
          same,
          (let w : lst k ≤ lst l = least_at k l lt hl same in
              elim (cases_eq (lst k) (lst l)) [
                | inr differ ↦ grind (arith, w, differ)
                | inl one ↦ absurd (let e = level-one k l (lst k) hk hl same (lst_leaf k hk) (lst_below k hk) (subst (λ (x : ℕ). IsAbove t (node_at l) x) (sym one) (lst_below l hl)) in omega (arith, e, lt))
              ]),
        )
      ]
    where
      least_at : (k l : ℕ) → k < l → l < length list → lvl k ≡ lvl l → lst k ≤ lst l
      least_at k l lt hl same = (b.components.in_order k l lt hl).least same

  -- the place that is noted at a node
  abbrev place : ℕ → ℕ
  place j = get_or places j 0

  place_in : (j : ℕ) → j < length t.parents → place j < length list
  place_in j h = (b.places_are.each j h).within

  place_above : (j : ℕ) → j < length t.parents → IsAbove t (node_at (place j)) j
  place_above j h = (b.places_are.each j h).above

  place_level : (j : ℕ) → j < length t.parents → lvl (place j) ≡ level levels j
  place_level j h = lvl_is (place j) (place_in j h) ∙ at j h
    where
      at : (j : ℕ) → j < length t.parents → level levels (node_at (place j)) ≡ level levels j
      at j h = (b.places_are.each j h).level

  -- the place above a component
  abbrev over : ℕ → ℕ
  over k = place (parent t (node_at k))

  parent_in : (k : ℕ) → k < length list → parent t (node_at k) < length t.parents
  parent_in k h = b.flood.climbs.within (node_at k) (node_in k h)

  over_in : (k : ℕ) → k < length list → over k < length list
  over_in k h = place_in (parent t (node_at k)) (parent_in k h)

  over_above : (k y : ℕ) → k < length list → IsAbove t (node_at k) y → IsAbove t (node_at (over k)) y
  over_above k y h a =
      above-on t (node_at (place (parent t (node_at k)))) (parent t (node_at k)) y (place_above (parent t (node_at k)) (parent_in k h)) (above-parent t (node_at k) y a)

  over_level : (k : ℕ) → k < length list → lvl (over k) ≡ level levels (parent t (node_at k))
  over_level k h = place_level (parent t (node_at k)) (parent_in k h)

  -- it is the place itself at a root, and else a later one
  over-cases : (k : ℕ) → k < length list → ((over k ≡ k) × (parent t (node_at k) ≡ node_at k)) ⊎ (k < over k)
  over-cases k h =
      elim (component-cases t levels (node_at k) (is_at k h)) [
        | inl root ↦ inl (
          level-one (over k) k (lst k) (over_in k h) h (over_level k h ∙ ap (level levels) root ∙ sym (lvl_is k h)) (lst_leaf k h) (over_above k (lst k) h (lst_below k h)) (lst_below k h),
          root,
        )
        | inr differ ↦ inr (
            let up = level-rises t f s levels b.flood (node_at k) (node_in k h) in
            let higher : level levels (node_at k) < level levels (parent t (node_at k)) = grind (arith, up, differ) in
            let strict : lvl k < lvl (over k) = omega (arith, higher, lvl_is k h, over_level k h) in
            elim (cases_order k (over k)) [
              | inl same ↦ absurd (let e : lvl k ≡ lvl (over k) = ap lvl same in omega (arith, e, strict))
              | inr other ↦ elim other [
                | inl low ↦ low
                | inr high ↦ absurd (omega (arith, strict, order-at (over k) k high h))
              ]
            ])
      ]

  -- what includes a component and comes later is at or after the place above it
  over-least : (k l : ℕ) → k < l → l < length list → ((y : ℕ) → IsIn y (verts k) → IsIn y (verts l)) → (over k ≢ k) × (over k ≤ l)
  over-least k l lt hl on =
      elim (above-either t (node_at k) (node_at l) (lst k) (lst_below k hk) over_l) [
        | inl inner ↦ absurd (let e = verts-one k l hk hl on (λ y i. has-from k y hk (has-to l y hl i).0 (above-on t (node_at k) (node_at l) y inner (has-to l y hl i).1)) in omega (arith, e, lt))
        | inr outer ↦ elim (above-next t (node_at l) (node_at k) outer) [
          | inl same ↦ absurd (let e = index-one l k hl hk same in omega (arith, e, lt))
          | inr higher ↦ (apart higher, most higher)
        ]
      ]
    where
      hk : k < length list
      hk = omega arith

      over_l : IsAbove t (node_at l) (lst k)
      over_l = (has-to l (lst k) hl (on (lst k) (has-least k hk))).1

      apart : IsAbove t (node_at l) (parent t (node_at k)) → over k ≢ k
      apart higher same = elim (over-cases k hk) [
        | inl root ↦ (let e : node_at l ≡ node_at k = sym higher.1 ∙ ap (ancestor t higher.0) root.1 ∙ ancestor-root t (node_at k) root.1 higher.0 in
            let q = index-one l k hl hk e in omega (arith, q, lt))
        | inr later ↦ omega (arith, later, same)
      ]

      most : IsAbove t (node_at l) (parent t (node_at k)) → over k ≤ l
      most higher =
          let up = level-along t f s levels b.flood (node_at l) (parent t (node_at k)) (parent_in k hk) higher in
          let e = over_level k hk in
          elim (cases_order (over k) l) [
            | inl same ↦ omega (arith, same)
            | inr other ↦ elim other [
              | inl low ↦ omega arith
              | inr high ↦ absurd (
                  let w = order-at l (over k) high (over_in k hk) in
                  let q = level-one (over k) l (lst k) (over_in k hk) hl (omega (arith, up, e, w, lvl_is l hl)) (lst_leaf k hk) (over_above k (lst k) hk (lst_below k hk)) over_l in
                  omega (arith, q, high))
            ]
          ]

  -- each component of the vertices that are in at a level has a place
  found : (m x : ℕ) → x < t.leaves → f x ≤ m → (k : ℕ) × ((k < length list) × (verts k ≡ component t.leaves (inside Min f s m) x))
  found m x hx low = (k, (hk, passing-agree (joined (inside Min f s (lvl k)) (lst k)) (joined (inside Min f s m) x) t.leaves (λ y hy. same_test _ _ (on y hy) (back y hy))))
    where
      n : (j : ℕ) × ((j < length t.parents) × IsNodeOf t s levels m x j)
      n = node_of-found t f s levels b.flood m x hx low

      k : ℕ
      k = place n.0

      hk : k < length list
      hk = place_in n.0 n.1.0

      above : (y : ℕ) → IsAbove t n.0 y → IsAbove t (node_at k) y
      above y a = above-on t (node_at (place n.0)) n.0 y (place_above n.0 n.1.0) a

      lvl_low : level levels (node_at k) ≤ m
      lvl_low = (let e = place_level n.0 n.1.0 in let q = lvl_is (place n.0) (place_in n.0 n.1.0) in let l : level levels n.0 ≤ m = n.1.1.low in omega (arith, e, q, l))

      on : (y : ℕ) → y < t.leaves → joined (inside Min f s (lvl k)) (lst k) y ≡ true → joined (inside Min f s m) x y ≡ true
      on y hy r = joined-reach f s m x y b.flood.weights
          (below-node_of t f s levels b.flood m x (node_at k) y (node_in k hk) lvl_low hx hy (above x n.1.1.above) (reach-below k y hk hy r))

      back : (y : ℕ) → y < t.leaves → joined (inside Min f s m) x y ≡ true → joined (inside Min f s (lvl k)) (lst k) y ≡ true
      back y hy r = below-reach k y hk hy (above y (n.1.1.joined y hy (reach-joined f s m x y b.flood.weights r)))

  -- some vertex has the level of the component
  met : (k : ℕ) → k < length list → (x : ℕ) × (IsIn x (verts k) × (f x ≡ lvl k))
  met k h =
      elim (cases_lt (node_at k) t.leaves) [
        | inl leaf ↦ (node_at k, (has-from k (node_at k) h leaf (0, refl), sym (b.flood.leaf (node_at k) leaf) ∙ sym (lvl_is k h)))
        | inr inner ↦ (let top = b.flood.top (node_at k) inner (node_in k h) in
            (top.0, (has-from k top.0 h top.1.0 top.1.1.0, top.1.1.1 ∙ sym (b.flood.made (node_at k) inner (node_in k h)) ∙ sym (lvl_is k h))))
      ]

  value-in : (k x : ℕ) → k < length list → IsIn x (verts k) → f x ≤ lvl k
  value-in k x h i = let p = has-to k x h i in omega (arith, lvl_is k h, value-low t f s levels b.flood (node_at k) x p.0 p.1)

  -- the number of a component's node in the tree
  record IsNumber (i k : ℕ) : Type 0 where
    pub low : k < length list
    pub is : i ≡ t.leaves + k
    pub back : i - t.leaves ≡ k

  number-of : (i : ℕ) → IsComponentNode tree i → IsNumber i (i - t.leaves)
  number-of i c =
      let a : tree.leaves ≤ i = c.no_leaf in
      let w : i < length tree.parents = c.within in
      let l = b.leaves in
      let p = b.parents_long in
      record { low = omega (arith, a, w, l, p); is = omega (arith, a, l); back = refl }

  node-of : (k : ℕ) → k < length list → IsComponentNode tree (t.leaves + k)
  node-of k h =
      let l = b.leaves in
      let p = b.parents_long in
      record { no_leaf = omega (arith, l); within = omega (arith, p, h) }

  abbrev vertices_at : ℕ → List ℕ
  vertices_at i = verts (i - t.leaves)

  back-at : (k : ℕ) → (t.leaves + k) - t.leaves ≡ k
  back-at k = omega arith

  level-at : (i : ℕ) → IsComponentNode tree i → level_of tree i ≡ lvl (i - t.leaves)
  level-at i c = let n = number-of i c in ap (level_of tree) n.is ∙ b.node_level (i - t.leaves) n.low

  parent-at : (i : ℕ) → IsComponentNode tree i → parent_of tree i ≡ t.leaves + over (i - t.leaves)
  parent-at i c = let n = number-of i c in ap (parent_of tree) n.is ∙ b.node_parent (i - t.leaves) n.low

  over-back : (i : ℕ) → IsComponentNode tree i → parent_of tree i - t.leaves ≡ over (i - t.leaves)
  over-back i c = let e = parent-at i c in omega (arith, e)

  pub built-tree : IsComponentTree Min f t.leaves s tree
  built-tree = record {
    leaves = b.leaves;
    one_level_each = b.levels_long ∙ sym b.parents_long;
    all_leaves = let p = b.parents_long in omega (arith, p);
    vertices = vertices_at;
    each_node = λ i c. (let k = i - t.leaves in let h = (number-of i c).low in
        (lvl k, lst k, (lst_leaf k h, (le-leb (f (lst k)) (lvl k) (value-in k (lst k) h (has-least k h)), refl))));
    each_component = λ m x hx in_at. (let k = found m x hx (leb-true (f x) m in_at) in
        (t.leaves + k.0, (node-of k.0 k.1.0, ap verts (back-at k.0) ∙ k.1.1)));
    once = λ i j ci cj same. (let ni = number-of i ci in let nj = number-of j cj in
        let e = verts-one (i - t.leaves) (j - t.leaves) ni.low nj.low (λ y m. subst (λ (l : List ℕ). IsIn y l) same m) (λ y m. subst (λ (l : List ℕ). IsIn y l) (sym same) m) in
        omega (arith, e, ni.is, nj.is));
    reached = λ i c. (let m = met (i - t.leaves) (number-of i c).low in (m.0, (m.1.0, m.1.1 ∙ sym (level-at i c))));
    last = λ i x c member. le-leb (f x) (level_of tree i) (let v = value-in (i - t.leaves) x (number-of i c).low member in let e = level-at i c in omega (arith, v, e));
    in_order = λ i j ci cj lt. order_in i j ci cj lt;
    leaf_level = b.leaf_level;
    leaf_parent = λ x hx. (let few : t.leaves ≤ length t.parents = b.flood.few in
        let hp : x < length t.parents = omega arith in
        let h = place_in x hp in
        let e : parent_of tree x ≡ t.leaves + place x = b.leaf_parent x hx in
        subst (λ (i : ℕ). IsComponentNode tree i × ((level_of tree i ≡ f x) × IsIn x (vertices_at i))) (sym e)
        (node-of (place x) h, (b.node_level (place x) h ∙ place_level x hp ∙ b.flood.leaf x hx, subst (λ (k : ℕ). IsIn x (verts k)) (sym (back-at (place x))) (has-from (place x) x h hx (place_above x hp)))));
    parent_includes = λ i c apart. includes_in i c apart;
    parent_least = λ i j ci cj lt on. least_in i j ci cj lt on;
  }
    where
      order_in : (i j : ℕ) → IsComponentNode tree i → IsComponentNode tree j → i < j → IsEarlier Min (level_of tree i) (get_or (vertices_at i) 0 0) (level_of tree j) (get_or (vertices_at j) 0 0)
      order_in i j ci cj lt =
          let ni = number-of i ci in
          let nj = number-of j cj in
          let vi = verts-first (i - t.leaves) ni.low in
          let vj = verts-first (j - t.leaves) nj.low in
          let li = level-at i ci in
          let lj = level-at j cj in
          elim (earlier (i - t.leaves) (j - t.leaves) (omega (arith, ni.is, nj.is, lt)) nj.low) [
            | inl before ↦ inl (omega (arith, before, li, lj))
            | inr even ↦ inr (omega (arith, even.0, li, lj), omega (arith, even.1, vi, vj))
          ]

      includes_in : (i : ℕ) → IsComponentNode tree i → parent_of tree i ≢ i →
          IsComponentNode tree (parent_of tree i) × ((i < parent_of tree i) × Includes (vertices_at (parent_of tree i)) (vertices_at i))
      includes_in i c apart =
          let n = number-of i c in
          let k = i - t.leaves in
          let e = parent-at i c in
          elim (over-cases k n.low) [
            | inl root ↦ absurd (apart (omega (arith, e, root.0, n.is)))
            | inr later ↦ (
              subst (λ (j : ℕ). IsComponentNode tree j) (sym e) (node-of (over k) (over_in k n.low)),
              (
                omega (arith, e, later, n.is),
                λ y m. subst (λ (l : ℕ). IsIn y (verts l)) (sym (over-back i c))
                    (let p = has-to k y n.low m in has-from (over k) y (over_in k n.low) p.0 (over_above k y n.low p.1)),
              ),
            )
          ]

      least_in : (i j : ℕ) → IsComponentNode tree i → IsComponentNode tree j → i < j → Includes (vertices_at j) (vertices_at i) → (parent_of tree i ≢ i) × (parent_of tree i ≤ j)
      least_in i j ci cj lt on =
          let ni = number-of i ci in
          let nj = number-of j cj in
          let e = parent-at i ci in
          let o = over-least (i - t.leaves) (j - t.leaves) (omega (arith, ni.is, nj.is, lt)) nj.low on in (
            λ same. o.0 (omega (arith, e, same, ni.is)),
            omega (arith, e, o.1, nj.is),
          )
