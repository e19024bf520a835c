-- What the plateaus of a level tree say of minima.
use Rattle.std.proofs.Common.{◌≡◌, ℕ, zero, suc, ◌<◌, ◌≤◌, false, inl, inr, refl, sym, ◌∙◌, subst, ap, arith, List, [], ◌∷◌, length}
use Rattle.std.specs.Prelude.{◌==◌, not, ◌&&◌}
use Rattle.std.proofs.lemmas.Bool.{cases_lt, cases_eq, both_ways, and_parts, and_from, not-true, not_from_false, ne_eqb, eqb-false}
use Rattle.edge_laws.specs.Edges.{ListedEdge, EdgeList, IsWalk, Joined}
use Rattle.hg_base.specs.Lists.{IsIn}
use Rattle.edge_laws.specs.Saliency.{at_most}
use Rattle.tree_laws.specs.Tree.{ParentTree, parent, altitude, ancestor, IsAbove}
use Rattle.tree_laws.specs.Levels.{IsClimbing, AltitudesRise, is_above, IsTop, IsLevelTree}
use Rattle.hg_base.proofs.Counts.{least_below}
use Rattle.edge_laws.proofs.Walks.{joined-ends, Joined-joined}
use Rattle.tree_laws.proofs.Climbs.{ancestor-first, ancestor-root, ancestor-within, above-on, above-next, above-either, above-within, above-altitude}
use Rattle.tree_laws.proofs.Tops.{is_above-from, is_above-to, top-above}
use Rattle.edge_laws.proofs.Weights.{Joined-heavier}
use Rattle.partition_tree.specs.TreeLists.{IsWellFormed}
use Rattle.partition_tree.proofs.WellFormed.{well_formed-climbs, well_formed-leaves}
use Rattle.watershed_cut.specs.Minima.{IsEnd, IsMinimumEdge}
use Rattle.watershed_cut.specs.Plateaus.{IsPlateau, IsOverLower}
use Rattle.watershed_cut.proofs.MinimumWalks.{step-first}
use Rattle.watershed_cut.proofs.MinimumByWeight.{IsQuiet, at_most-to, at_most-from}

-- a tree that tells who is joined at each level by the edges of s, which join two leaves each
pub record IsLevelled (t : ParentTree) (s : EdgeList) : Type 0 where
  pub well_formed : IsWellFormed t
  pub rise : AltitudesRise t
  pub levels : IsLevelTree t s
  pub first : (e : ListedEdge) → IsIn e s → e.u < t.leaves
  pub second : (e : ListedEdge) → IsIn e s → e.v < t.leaves
  pub apart : (e : ListedEdge) → IsIn e s → e.u ≡ e.v → ⊥

-- a leaf is a node
pub leaf-node : (t : ParentTree) → IsWellFormed t → (x : ℕ) → x < t.leaves → x < length t.parents
leaf-node t f x h = let few = well_formed-leaves t f in omega arith

-- an end of an edge is a leaf
pub end-leaf : (t : ParentTree) (s : EdgeList) → IsLevelled t s → (e : ListedEdge) (x : ℕ) → IsIn e s → IsEnd x e → x < t.leaves
end-leaf t s l e x i (inl u) = subst (λ (z : ℕ). z < t.leaves) u (l.first e i)
end-leaf t s l e x i (inr v) = subst (λ (z : ℕ). z < t.leaves) v (l.second e i)

-- a leaf is above itself alone
pub leaf-self : (t : ParentTree) → IsWellFormed t → (x y : ℕ) → x < t.leaves → y < length t.parents → IsAbove t x y → y ≡ x
leaf-self t f x y hx hy (zero, e) = e
leaf-self t f x y hx hy (suc d, e) =
    let z = ancestor t d y in
    let hz : z < length t.parents = ancestor-within t (well_formed-climbs t f) d y hy in
    elim (cases_eq (parent t z) z) [
      | inl root ↦ leaf-self t f x y hx hy (d, sym root ∙ e)
      | inr other ↦ absurd (let inner : t.leaves ≤ parent t z = f.inner z hz other in omega arith)
    ]

-- above a root is the root alone
pub root-alone : (t : ParentTree) (i x : ℕ) → parent t x ≡ x → IsAbove t i x → i ≡ x
root-alone t i x root a = sym a.1 ∙ ancestor-root t x root a.0

-- the leaves below the last node of x's path up to a level are those that the edges of at most the level join to x
pub top-below : (t : ParentTree) (s : EdgeList) → IsLevelled t s → (k x j y : ℕ) → x < t.leaves → y < t.leaves → IsTop t k x j → IsAbove t j y → Joined (at_most s k) x y
top-below t s l k x j y hx hy top a = Joined-heavier s (altitude t j) k x y top.low (l.levels.joined_below j x y hx hy top.above a)

pub top-over : (t : ParentTree) (s : EdgeList) → IsLevelled t s → (k x j y : ℕ) → x < t.leaves → y < t.leaves → IsTop t k x j → Joined (at_most s k) x y → IsAbove t j y
top-over t s l k x j y hx hy top w =
    let i = l.levels.one_above k x hx in
    above-on t j i.0 y (top-above t (well_formed-climbs t l.well_formed) l.rise k x j i.0 (leaf-node t l.well_formed x hx) top (i.1.1 x hx ([], refl)) i.1.0) (i.1.1 y hy w)

-- a light edge at a vertex
pub record IsLightEdge (s : EdgeList) (k x : ℕ) (e : ListedEdge) : Type 0 where
  pub member : IsIn e s
  pub at : IsEnd x e
  pub light : e.weight ≤ k

-- a walk to another vertex begins with an edge
first-edge : (s : EdgeList) (k x : ℕ) (zs : List ℕ) (y : ℕ) → (x ≡ y → ⊥) → IsWalk (at_most s k) x zs y → (e : ListedEdge) × IsLightEdge s k x e
first-edge s k x [] y other w = absurd (other w)
first-edge s k x (z ∷ zs) y other w =
    let i = at_most-to s k w.0.0 w.0.1.0 in (w.0.0, record { member = i.0; at = step-first w.0.0 x z w.0.1.1; light = i.1 })

-- a node above a leaf, and not the leaf itself, is no lower than some edge at the leaf
pub edge-below : (t : ParentTree) (s : EdgeList) → IsLevelled t s → (i x : ℕ) → i < length t.parents → x < t.leaves → IsAbove t i x → (i ≡ x → ⊥) → (e : ListedEdge) × IsLightEdge s (altitude t i) x e
edge-below t s l i x hi hx a other = elim (least_below (λ y. is_above t i y && not (y == x)) t.leaves) [
  | inl m ↦
      let p = and_parts (is_above t i m.at) (not (m.at == x)) m.passes in
      let w = l.levels.joined_below i x m.at hx m.low a (is_above-to t i m.at p.0) in
      first-edge s (altitude t i) x w.0 m.at (λ same. eqb-false m.at x (not-true _ p.1) (sym same)) w.1
  | inr none' ↦ absurd (other (l.levels.once i x hi (leaf-node t l.well_formed x hx) (λ y hy. (to none' y hy, from y hy))))
]
  where
    to : ((y : ℕ) → y < t.leaves → (is_above t i y && not (y == x)) ≡ false) → (y : ℕ) → y < t.leaves → IsAbove t i y → IsAbove t x y
    to none' y hy b = elim (cases_eq y x) [
      | inl same ↦ (0, same)
      | inr unlike ↦ absurd (both_ways _ (none' y hy) (and_from _ _ (is_above-from t (well_formed-climbs t l.well_formed) i y (leaf-node t l.well_formed y hy) b) (not_from_false _ (ne_eqb y x unlike))))
    ]

    from : (y : ℕ) → y < t.leaves → IsAbove t x y → IsAbove t i y
    from y hy b = subst (λ (z : ℕ). IsAbove t i z) (sym (leaf-self t l.well_formed x y hx (leaf-node t l.well_formed y hy) b)) a

-- an inner node above both ends of an edge, and no higher than it
pub record IsEdgeNode (t : ParentTree) (e : ListedEdge) (i : ℕ) : Type 0 where
  pub light : altitude t i ≤ e.weight
  pub inner : t.leaves ≤ i
  pub node : i < length t.parents
  pub above : (x : ℕ) → IsEnd x e → IsAbove t i x

pub edge-node : (t : ParentTree) (s : EdgeList) → IsLevelled t s → (e : ListedEdge) → IsIn e s → (i : ℕ) × IsEdgeNode t e i
edge-node t s l e m =
    let n = l.levels.one_above e.weight e.u (l.first e m) in
    let i = n.0 in
    let au : IsAbove t i e.u = n.1.1 e.u (l.first e m) ([], refl) in
    let av : IsAbove t i e.v = n.1.1 e.v (l.second e m) (Joined-joined (at_most s e.weight) e.u e.v (joined-ends (at_most s e.weight) e (at_most-from s e.weight e m (omega arith)))) in
    let hu = leaf-node t l.well_formed e.u (l.first e m) in
    let hv = leaf-node t l.well_formed e.v (l.second e m) in (
      i,
      record {
        light = n.1.0;
        inner = elim (cases_lt i t.leaves) [
          | inl leaf ↦ absurd (l.apart e m (leaf-self t l.well_formed i e.u leaf hu au ∙ sym (leaf-self t l.well_formed i e.v leaf hv av)))
          | inr inner' ↦ inner'
        ];
        node = above-within t (well_formed-climbs t l.well_formed) i e.u hu au;
        above = λ x ends. end_above i au av x ends;
      },
    )
  where
    end_above : (i : ℕ) → IsAbove t i e.u → IsAbove t i e.v → (x : ℕ) → IsEnd x e → IsAbove t i x
    end_above i au av x (inl u) = subst (λ (z : ℕ). IsAbove t i z) u au
    end_above i au av x (inr v) = subst (λ (z : ℕ). IsAbove t i z) v av

-- a plateau has the altitude of the nodes whose plateau it is
pub plateau-altitude : (t : ParentTree) → IsClimbing t → AltitudesRise t → (i j : ℕ) → i < length t.parents → IsPlateau t i j → altitude t j ≡ altitude t i
plateau-altitude t c rise i j h p = let low = p.low in let high = above-altitude t c rise j i h p.above in omega arith

-- on the way from a lower inner node up to the last node of a level there is a drop
drop-found : (t : ParentTree) (s : EdgeList) → IsLevelled t s → (k j d i : ℕ) → t.leaves ≤ i → i < length t.parents → altitude t i < k → ancestor t d i ≡ j → altitude t j ≡ k → IsTop t k j j → IsOverLower t j
drop-found t s l k j zero i inner hi low e level top = absurd (let same : altitude t i ≡ altitude t j = ap (altitude t) e in omega arith)
drop-found t s l k j (suc d) i inner hi low e level top =
    let c = well_formed-climbs t l.well_formed in
    let p = parent t i in
    let hp : p < length t.parents = c.within i hi in
    let up : i ≤ p = c.rises i hi in
    let on : ancestor t d p ≡ j = ancestor-first t d i ∙ e in
    elim (cases_lt (altitude t p) k) [
      | inl lower ↦ drop-found t s l k j d p (omega arith) hp lower on level top
      | inr high ↦
          let most : altitude t p ≤ altitude t j = above-altitude t c l.rise j p hp (d, on) in (
            i,
            (
              record { inner = inner; node = hi; lower = omega arith },
              record {
                above = (d, on);
                low = omega arith;
                last = elim top.last [ inl root ↦ inl root | inr higher ↦ inr (omega arith) ];
              },
            ),
          )
    ]

-- where the plateau is over no lower inner node, it is quiet below it
pub quiet-from : (t : ParentTree) (s : EdgeList) → IsLevelled t s → (k x j : ℕ) → x < t.leaves → IsTop t k x j → altitude t j ≡ k → (¬ IsOverLower t j) → IsQuiet s k x
quiet-from t s l k x j hx top level none' y f w i ends = elim (cases_lt f.weight k) [
  | inl lower ↦
      let c = well_formed-climbs t l.well_formed in
      let hy : y < t.leaves = end-leaf t s l f y i ends in
      let n = edge-node t s l f i in
      let light : altitude t n.0 ≤ f.weight = n.1.light in
      let a : IsAbove t j y = top-over t s l k x j y hx hy top w in
      let hj : j < length t.parents = above-within t c j x (leaf-node t l.well_formed x hx) top.above in
      elim (above-either t j n.0 y a (n.1.above y ends)) [
        | inl over ↦ absurd (none' (drop-found t s l k j over.0 n.0 n.1.inner n.1.node (omega arith) over.1 level (record { above = (0, refl); low = top.low; last = top.last })))
        | inr under ↦ absurd (let high : altitude t j ≤ altitude t n.0 = above-altitude t c l.rise n.0 j hj under in omega arith)
      ]
  | inr no_lower ↦ no_lower
]

-- and where it is over one, it isn't
pub quiet-not : (t : ParentTree) (s : EdgeList) → IsLevelled t s → (k x j : ℕ) → x < t.leaves → IsTop t k x j → altitude t j ≡ k → IsOverLower t j → IsQuiet s k x → ⊥
quiet-not t s l k x j hx top level o q =
    let c = well_formed-climbs t l.well_formed in
    let i = o.0 in
    let drop' = o.1.0 in
    let y = l.levels.some_leaf i drop'.node in
    let hy : y.0 < t.leaves = y.1.0 in
    let inner : t.leaves ≤ i = drop'.inner in
    let e = edge-below t s l i y.0 drop'.node hy y.1.1 (λ same. omega arith) in
    let high : altitude t (parent t i) ≤ altitude t j = above-altitude t c l.rise j (parent t i) (c.within i drop'.node) o.1.1.above in
    let low : altitude t i < altitude t (parent t i) = drop'.lower in
    let light : e.0.weight ≤ altitude t i = e.1.light in
    let a : IsAbove t j y.0 = above-on t j i y.0 (above-on t j (parent t i) i o.1.1.above (1, refl)) y.1.1 in
    let heavy : k ≤ e.0.weight = q y.0 e.0 (top-below t s l k x j y.0 hx hy top a) e.1.member e.1.at in
    omega arith

-- at an end of a minimum edge the parent has the altitude of the edge
pub record IsMinimumLeaf (t : ParentTree) (x k : ℕ) : Type 0 where
  pub no_root : parent t x ≡ x → ⊥
  pub level : altitude t (parent t x) ≡ k

pub minimum-leaf : (t : ParentTree) (s : EdgeList) → IsLevelled t s → (e : ListedEdge) (x : ℕ) → IsMinimumEdge s e → IsEnd x e → IsMinimumLeaf t x e.weight
minimum-leaf t s l e x m ends =
    let c = well_formed-climbs t l.well_formed in
    let hx : x < t.leaves = end-leaf t s l e x m.member ends in
    let nx = leaf-node t l.well_formed x hx in
    let n = edge-node t s l e m.member in
    let inner : t.leaves ≤ n.0 = n.1.inner in
    let a = n.1.above x ends in
    let no_root : parent t x ≡ x → ⊥ = λ root. let same : n.0 ≡ x = root-alone t n.0 x root a in omega arith in
    let light : altitude t n.0 ≤ e.weight = n.1.light in
    let low : altitude t (parent t x) ≤ altitude t n.0 = elim (above-next t n.0 x a) [
      | inl same ↦ absurd (omega arith)
      | inr up ↦ above-altitude t c l.rise n.0 (parent t x) (c.within x nx) up
    ] in
    let f = edge-below t s l (parent t x) x (c.within x nx) hx (1, refl) no_root in
    let under : f.0.weight ≤ altitude t (parent t x) = f.1.light in
    let heavy : e.weight ≤ f.0.weight = m.lowest x x f.0 ends ([], refl) f.1.member f.1.at in
    record { no_root = no_root; level = omega arith }
