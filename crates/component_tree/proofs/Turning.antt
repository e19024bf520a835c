-- A max tree is the min tree of the values turned over, with its levels turned back, and the other way round.
use Rattle.std.proofs.Common.{◌≡◌, ℕ, ◌-◌, ◌<◌, ◌≤◌, Bool, true, inl, inr, refl, sym, ◌∙◌, subst, ap, arith, List, length, get_or}
use Rattle.std.specs.Prelude.{IsTrue, nat_le, ◌&&◌}
use Rattle.std.proofs.lemmas.Bool.{leb-true, le-leb}
use Rattle.std.proofs.lemmas.List.{get_or-map, length-map}
use Rattle.std.proofs.lemmas.List.Elements.{filter_agree}
use Rattle.edge_laws.specs.Edges.{ListedEdge, EdgeList, component}
use Rattle.hg_base.specs.Lists.{IsIn}
use Rattle.edge_laws.proofs.Sets.{same_test}
use Rattle.component_tree.specs.declared.side.Side.{Side}
use Rattle.component_tree.specs.declared.side.Side.TheVariants.{Min, Max}
use Rattle.component_tree.specs.Components.{ComponentLists, IsComponentNode, IsComponentTree, IsEarlier, ComesBefore, inside, is_in_at, parent_of, level_of}
use Rattle.component_tree.specs.MinTree.{turned, turned_back}

-- what one side says of values at a level the other side says of the turned values at a level
abbrev pub SameAt : Side → Side → (ℕ → ℕ) → (ℕ → ℕ) → ℕ → ℕ → Type 0
SameAt a b v w t u = (y : ℕ) → is_in_at a t (v y) ≡ is_in_at b u (w y)

inside-same : (a b : Side) (v w : ℕ → ℕ) (s : EdgeList) (t u : ℕ) → SameAt a b v w t u → inside a v s t ≡ inside b w s u
inside-same a b v w s t u h =
    filter_agree (λ (e : ListedEdge). is_in_at a t (v e.u) && is_in_at a t (v e.v)) (λ (e : ListedEdge). is_in_at b u (w e.u) && is_in_at b u (w e.v))
    (λ e. ap (λ (x : Bool). x && is_in_at a t (v e.v)) (h e.u) ∙ ap (λ (x : Bool). is_in_at b u (w e.u) && x) (h e.v)) s

-- Two sides, and values and levels that are those of each other turned over.
pub record AreTurned (a b : Side) (v w : ℕ → ℕ) (t u : ComponentLists) : Type 0 where
  pub leaves : u.leaves ≡ t.leaves
  pub parents : u.parents ≡ t.parents
  pub levels_long : length u.levels ≡ length t.levels
  pub level : (i : ℕ) → i < length t.levels → level_of u i ≡ 4294967295 - level_of t i
  pub value : (x : ℕ) → w x ≡ 4294967295 - v x
  pub fits : (x : ℕ) → v x ≤ 4294967295
  pub on : (k x : ℕ) → is_in_at a k (v x) ≡ true → (l : ℕ) × SameAt a b v w k l
  pub back : (l x : ℕ) → is_in_at b l (w x) ≡ true → (k : ℕ) × SameAt a b v w k l
  pub at : (k : ℕ) → k ≤ 4294967295 → SameAt a b v w k (4294967295 - k)
  pub before : (k l : ℕ) → k ≤ 4294967295 → l ≤ 4294967295 → ComesBefore a k l → ComesBefore b (4294967295 - k) (4294967295 - l)

module _ (a b : Side) (v w : ℕ → ℕ) (n : ℕ) (s : EdgeList) (t u : ComponentLists) (h : AreTurned a b v w t u) (c : IsComponentTree a v n s t) where
  node-back : (i : ℕ) → IsComponentNode u i → IsComponentNode t i
  node-back i d =
      let x : u.leaves ≤ i = d.no_leaf in
      let y : i < length u.parents = d.within in
      let l = h.leaves in
      let p = ap (λ (l : List ℕ). length l) h.parents in
      record { no_leaf = omega (arith, x, l); within = omega (arith, y, p) }

  node-on : (i : ℕ) → IsComponentNode t i → IsComponentNode u i
  node-on i d =
      let x : t.leaves ≤ i = d.no_leaf in
      let y : i < length t.parents = d.within in
      let l = h.leaves in
      let p = ap (λ (l : List ℕ). length l) h.parents in
      record { no_leaf = omega (arith, x, l); within = omega (arith, y, p) }

  parent-same : (i : ℕ) → parent_of u i ≡ parent_of t i
  parent-same i = ap (λ (l : List ℕ). get_or l i 0) h.parents

  level-same : (i : ℕ) → i < length t.parents → level_of u i ≡ 4294967295 - level_of t i
  level-same i lt = let o = c.one_level_each in h.level i (omega (arith, o, lt))

  level-fits : (i : ℕ) → IsComponentNode t i → level_of t i ≤ 4294967295
  level-fits i d = let m = c.reached i d in let f = h.fits m.0 in omega (arith, f, m.1.1)

  around-same : (k l x : ℕ) → SameAt a b v w k l → component n (inside a v s k) x ≡ component n (inside b w s l) x
  around-same k l x e = ap (λ (es : EdgeList). component n es x) (inside-same a b v w s k l e)

  leaf-parent-in : (x : ℕ) → x < n → IsComponentNode u (parent_of t x) × ((level_of u (parent_of t x) ≡ w x) × IsIn x (c.vertices (parent_of t x)))
  leaf-parent-in x hx =
      let p = c.leaf_parent x hx in
      let e = level-same (parent_of t x) p.0.within in
      let wx = h.value x in
      (node-on (parent_of t x) p.0, (omega (arith, e, p.1.0, wx), p.1.1))

  pub turned-tree : IsComponentTree b w n s u
  turned-tree = record {
    leaves = h.leaves ∙ c.leaves;
    one_level_each = h.levels_long ∙ c.one_level_each ∙ sym (ap (λ (l : List ℕ). length l) h.parents);
    all_leaves = let p = ap (λ (l : List ℕ). length l) h.parents in let q = c.all_leaves in omega (arith, p, q);
    vertices = c.vertices;
    each_node = λ i d. node_in i d (c.each_node i (node-back i d));
    each_component = λ l x hx is. (let k = h.back l x is in
        let p = c.each_component k.0 x hx (k.1 x ∙ is) in
        (p.0, (node-on p.0 p.1.0, p.1.1 ∙ around-same k.0 l x k.1)));
    once = λ i j di dj same. c.once i j (node-back i di) (node-back j dj) same;
    reached = λ i d. (let m = c.reached i (node-back i d) in
        let e = level-same i (node-back i d).within in
        let wm = h.value m.0 in
        (m.0, (m.1.0, omega (arith, e, wm, m.1.1))));
    last = λ i x d member. (let e = level-same i (node-back i d).within in
        subst (λ (k : ℕ). is_in_at b k (w x) ≡ true) (sym e) (sym (h.at (level_of t i) (level-fits i (node-back i d)) x) ∙ c.last i x (node-back i d) member));
    in_order = λ i j di dj lt. order_in i j (node-back i di) (node-back j dj) (c.in_order i j (node-back i di) (node-back j dj) lt);
    leaf_level = λ x hx. (let q = c.all_leaves in let e = level-same x (omega (arith, q, hx)) in let l = c.leaf_level x hx in let wx = h.value x in omega (arith, e, l, wx));
    leaf_parent = λ x hx. subst (λ (i : ℕ). IsComponentNode u i × ((level_of u i ≡ w x) × IsIn x (c.vertices i))) (sym (parent-same x)) (leaf-parent-in x hx);
    parent_includes = λ i d apart. (let p = c.parent_includes i (node-back i d) (λ e. apart (parent-same i ∙ e)) in
        (subst (λ (j : ℕ). IsComponentNode u j) (sym (parent-same i)) (node-on (parent_of t i) p.0), (let e = parent-same i in omega (arith, e, p.1.0), subst (λ (j : ℕ). (y : ℕ) → IsIn y (c.vertices i) → IsIn y (c.vertices j)) (sym (parent-same i)) p.1.1)));
    parent_least = λ i j di dj lt on. (let p = c.parent_least i j (node-back i di) (node-back j dj) lt on in
        let e = parent-same i in (λ same. p.0 (sym e ∙ same), omega (arith, e, p.1)));
  }
    where
      node_in : (i : ℕ) → IsComponentNode u i → (k x : ℕ) × ((x < n) × (IsTrue (is_in_at a k (v x)) × (c.vertices i ≡ component n (inside a v s k) x))) →
          (l x : ℕ) × ((x < n) × (IsTrue (is_in_at b l (w x)) × (c.vertices i ≡ component n (inside b w s l) x)))
      node_in i d (k, x, rest) =
          let l = h.on k x rest.1.0 in
          (l.0, x, (rest.0, (sym (l.1 x) ∙ rest.1.0, rest.1.1 ∙ around-same k l.0 x l.1)))

      order_in : (i j : ℕ) → IsComponentNode t i → IsComponentNode t j → IsEarlier a (level_of t i) (get_or (c.vertices i) 0 0) (level_of t j) (get_or (c.vertices j) 0 0) →
          IsEarlier b (level_of u i) (get_or (c.vertices i) 0 0) (level_of u j) (get_or (c.vertices j) 0 0)
      order_in i j di dj (inl before) = inl (
          subst (λ (k : ℕ). ComesBefore b k (level_of u j)) (sym (level-same i di.within))
          (subst (λ (k : ℕ). ComesBefore b (4294967295 - level_of t i) k) (sym (level-same j dj.within))
          (h.before (level_of t i) (level_of t j) (level-fits i di) (level-fits j dj) before)))
      order_in i j di dj (inr even) = inr (level-same i di.within ∙ ap (λ (k : ℕ). 4294967295 - k) even.0 ∙ sym (level-same j dj.within), even.1)

-- the tests of the two sides
mirror : (k v : ℕ) → v ≤ 4294967295 → nat_le v k ≡ nat_le (4294967295 - k) (4294967295 - v)
mirror k v fits = same_test _ _
    (λ t. le-leb (4294967295 - k) (4294967295 - v) (let l = leb-true v k t in omega (arith, l)))
    (λ t. le-leb v k (let l = leb-true (4294967295 - k) (4294967295 - v) t in omega (arith, l, fits)))

mirror-back : (k v : ℕ) → k ≤ 4294967295 → v ≤ 4294967295 → nat_le k v ≡ nat_le (4294967295 - v) (4294967295 - k)
mirror-back k v low fits = mirror v k low

-- the levels turned over
pub level-turned : (t : ComponentLists) (i : ℕ) → i < length t.levels → level_of (turned_back Max t) i ≡ 4294967295 - level_of t i
level-turned t i lt = get_or-map (turned Max) t.levels i 0 0 lt

pub min-to_max : (v : ℕ → ℕ) (t : ComponentLists) → ((x : ℕ) → v x ≤ 4294967295) → AreTurned Min Max (λ x. 4294967295 - v x) v t (turned_back Max t)
min-to_max v t fits = record {
  leaves = refl;
  parents = refl;
  levels_long = length-map t.levels (turned Max);
  level = level-turned t;
  value = λ x. (let f = fits x in omega (arith, f));
  fits = λ x. omega arith;
  on = λ k x is. (4294967295 - k, λ y. min_max k y);
  back = λ l x is. (4294967295 - l, λ y. (let e : v x ≤ 4294967295 = fits x in let low : l ≤ v x = leb-true l (v x) is in sym (mirror-back l (v y) (omega arith) (fits y))));
  at = λ k low y. min_max k y;
  before = λ k l hk hl lt. omega (arith, hk, hl, lt);
}
  where
    min_max : (k y : ℕ) → nat_le (4294967295 - v y) k ≡ nat_le (4294967295 - k) (v y)
    min_max k y = let f = fits y in let e : 4294967295 - (4294967295 - v y) ≡ v y = omega (arith, f) in mirror k (4294967295 - v y) (omega arith) ∙ ap (nat_le (4294967295 - k)) e

pub max-to_min : (v : ℕ → ℕ) (t : ComponentLists) → ((x : ℕ) → v x ≤ 4294967295) → AreTurned Max Min v (λ x. 4294967295 - v x) t (turned_back Max t)
max-to_min v t fits = record {
  leaves = refl;
  parents = refl;
  levels_long = length-map t.levels (turned Max);
  level = level-turned t;
  value = λ x. refl;
  fits = fits;
  on = λ k x is. (4294967295 - k, λ y. (let e : v x ≤ 4294967295 = fits x in let low : k ≤ v x = leb-true k (v x) is in mirror-back k (v y) (omega arith) (fits y)));
  back = λ l x is. (4294967295 - l, λ y. sym (max_min l y));
  at = λ k low y. mirror-back k (v y) low (fits y);
  before = λ k l hk hl lt. omega (arith, hk, hl, lt);
}
  where
    max_min : (l y : ℕ) → nat_le (4294967295 - v y) l ≡ nat_le (4294967295 - l) (v y)
    max_min l y = let f = fits y in let e : 4294967295 - (4294967295 - v y) ≡ v y = omega (arith, f) in mirror l (4294967295 - v y) (omega arith) ∙ ap (nat_le (4294967295 - l)) e
