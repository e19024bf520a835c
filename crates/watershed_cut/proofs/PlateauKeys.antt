-- The keys by plateaus say who is in a minimum, and in which.
use Rattle.std.proofs.Common.{◌≡◌, ℕ, ◌<◌, ◌≤◌, inl, inr, refl, sym, ◌∙◌, subst, arith, List, [], length}
use Rattle.std.specs.Prelude.{Option, ◌==◌}
use Rattle.std.proofs.lemmas.Bool.{cases_eq, false_from_ne_true, eqb-true, eq-eqb}
use Rattle.edge_laws.specs.Edges.{EdgeList, Joined}
use Rattle.hg_base.specs.Numbering.{has_key, same_key}
use Rattle.edge_laws.specs.Saliency.{at_most}
use Rattle.tree_laws.specs.Tree.{ParentTree, parent, altitude, IsAbove}
use Rattle.tree_laws.specs.Levels.{IsClimbing, IsTop}
use Rattle.edge_laws.proofs.Sets.{same_test}
use Rattle.tree_laws.proofs.Climbs.{above-rises}
use Rattle.tree_laws.proofs.Tops.{top-parent, top-shares}
use Rattle.partition_tree.proofs.WellFormed.{well_formed-climbs}
use Rattle.watershed_cut.specs.Minima.{HasNoEdge, InMinimum, SameMinimum}
use Rattle.watershed_cut.specs.MinimumTests.{in_minimum, same_minimum}
use Rattle.watershed_cut.specs.Plateaus.{IsPlateau, IsOverLower, ArePlateauKeys}
use Rattle.watershed_cut.proofs.MinimumWalks.{in_minimum-to, in_minimum-from, same_minimum-to, same_minimum-from, plateau-walk}
use Rattle.watershed_cut.proofs.LowerNodes.{top-one}
use Rattle.watershed_cut.proofs.MinimumByWeight.{IsQuiet, level-light, quiet-walk, minimum-quiet, quiet-minimum}
use Rattle.watershed_cut.proofs.PlateauLaws.{IsLevelled, top-below, top-over, leaf-node, root-alone, edge-below, edge-node, plateau-altitude, quiet-from, quiet-not, minimum-leaf}

-- the plateau of a root's parent is the root
root-plateau : (t : ParentTree) (x j : ℕ) → parent t x ≡ x → IsPlateau t (parent t x) j → j ≡ x
root-plateau t x j root p = root-alone t j x root (subst (λ (z : ℕ). IsAbove t j z) root p.above)

-- that of another leaf is an inner node
inner-plateau : (t : ParentTree) (s : EdgeList) → IsLevelled t s → (x j : ℕ) → x < t.leaves → (parent t x ≡ x → ⊥) → IsPlateau t (parent t x) j → t.leaves ≤ j
inner-plateau t s l x j hx other p =
    let c = well_formed-climbs t l.well_formed in
    let nx = leaf-node t l.well_formed x hx in
    let inner : t.leaves ≤ parent t x = l.well_formed.inner x nx other in
    let up : parent t x ≤ j = above-rises t c j (parent t x) (c.within x nx) p.above in omega arith

-- a leaf is over no lower inner node
leaf-over : (t : ParentTree) (s : EdgeList) → IsLevelled t s → (j : ℕ) → j < t.leaves → IsOverLower t j → ⊥
leaf-over t s l j hj o =
    let c = well_formed-climbs t l.well_formed in
    let i = o.0 in
    let inner : t.leaves ≤ i = o.1.0.inner in
    let up : i ≤ parent t i = c.rises i o.1.0.node in
    let on : parent t i ≤ j = above-rises t c j (parent t i) (c.within i o.1.0.node) o.1.1.above in omega arith

-- a leaf that is no root has an edge
has-edge : (t : ParentTree) (s : EdgeList) → IsLevelled t s → (x : ℕ) → x < t.leaves → (parent t x ≡ x → ⊥) → HasNoEdge s x → ⊥
has-edge t s l x hx other none' =
    let c = well_formed-climbs t l.well_formed in
    let f = edge-below t s l (parent t x) x (c.within x (leaf-node t l.well_formed x hx)) hx (1, refl) other in none' f.0 f.1.member f.1.at

-- a vertex in a minimum has a plateau that is over no lower inner node
pub member-quiet : (t : ParentTree) (s : EdgeList) → IsLevelled t s → (x j : ℕ) → x < t.leaves → IsPlateau t (parent t x) j → InMinimum t.leaves s x → IsOverLower t j → ⊥
member-quiet t s l x j hx p m o = elim m.either [
  | inl none' ↦ elim (cases_eq (parent t x) x) [
    | inl root ↦ let same : j ≡ x = root-plateau t x j root p in leaf-over t s l j (omega arith) o
    | inr other ↦ has-edge t s l x hx other none'
  ]
  | inr e ↦
      let f = minimum-leaf t s l e.0 x e.1.0 e.1.1 in
      let nx = leaf-node t l.well_formed x hx in
      let c = well_formed-climbs t l.well_formed in
      quiet-not t s l (altitude t (parent t x)) x j hx (top-parent t (altitude t (parent t x)) x j p) (plateau-altitude t c l.rise (parent t x) j (c.within x nx) p) o
      (subst (λ (k : ℕ). IsQuiet s k x) (sym f.level) (minimum-quiet s e.0 x e.1.0 e.1.1))
]

-- and the other way round
pub quiet-member : (t : ParentTree) (s : EdgeList) → IsLevelled t s → (x j : ℕ) → x < t.leaves → IsPlateau t (parent t x) j → (¬ IsOverLower t j) → InMinimum t.leaves s x
quiet-member t s l x j hx p none' = record {
  vertex = hx;
  either = elim (cases_eq (parent t x) x) [
    | inl root ↦ inl (λ e i ends. let n = edge-node t s l e i in let inner : t.leaves ≤ n.0 = n.1.inner in let same : n.0 ≡ x = root-alone t n.0 x root (n.1.above x ends) in omega arith)
    | inr other ↦
        let c = well_formed-climbs t l.well_formed in
        let nx = leaf-node t l.well_formed x hx in
        let k = altitude t (parent t x) in
        let q : IsQuiet s k x = quiet-from t s l k x j hx (top-parent t k x j p) (plateau-altitude t c l.rise (parent t x) j (c.within x nx) p) none' in
        let f = edge-below t s l (parent t x) x (c.within x nx) hx (1, refl) other in
        let light : f.0.weight ≤ k = f.1.light in
        let heavy : k ≤ f.0.weight = q x f.0 ([], refl) f.1.member f.1.at in
        let same : k ≡ f.0.weight = omega arith in
        inr (f.0, (quiet-minimum s f.0 x f.1.member f.1.at (subst (λ (m : ℕ). IsQuiet s m x) same q), f.1.at))
  ];
}

-- vertices in minima are in one minimum where they have one plateau
pub plateau-same : (t : ParentTree) (s : EdgeList) → IsLevelled t s → (x y j : ℕ) → x < t.leaves → y < t.leaves → IsPlateau t (parent t x) j → IsPlateau t (parent t y) j →
    InMinimum t.leaves s x → InMinimum t.leaves s y → SameMinimum t.leaves s x y
plateau-same t s l x y j hx hy px py mx my = record {
  first = mx;
  second = my;
  joined = elim (cases_eq (parent t x) x) [
    | inl root ↦ elim (cases_eq (parent t y) y) [
      | inl also ↦ inl (sym (root-plateau t x j root px) ∙ root-plateau t y j also py)
      | inr other ↦ absurd (let same : j ≡ x = root-plateau t x j root px in let inner : t.leaves ≤ j = inner-plateau t s l y j hy other py in omega arith)
    ]
    | inr other ↦ elim mx.either [
      | inl none' ↦ absurd (has-edge t s l x hx other none')
      | inr e ↦ elim (cases_eq (parent t y) y) [
        | inl root ↦ absurd (let same : j ≡ y = root-plateau t y j root py in let inner : t.leaves ≤ j = inner-plateau t s l x j hx other px in omega arith)
        | inr unlike ↦
            let k = altitude t (parent t x) in
            let f = minimum-leaf t s l e.0 x e.1.0 e.1.1 in
            let a : IsAbove t j y = (top-parent t (altitude t (parent t y)) y j py).above in
            let w = top-below t s l k x j y hx hy (top-parent t k x j px) a in
            let v : Joined (at_most s e.0.weight) x y = subst (λ (m : ℕ). Joined (at_most s m) x y) f.level w in
            inr (e.0, ((e.1.0, e.1.1), (v.0, quiet-walk s e.0.weight e.0 x v.0 y e.1.0 refl e.1.1 v.1)))
      ]
    ]
  ];
}

-- and they have one plateau where they are in one minimum
pub same-plateau : (t : ParentTree) (s : EdgeList) → IsLevelled t s → (x y i j : ℕ) → x < t.leaves → y < t.leaves → IsPlateau t (parent t x) i → IsPlateau t (parent t y) j → SameMinimum t.leaves s x y → i ≡ j
same-plateau t s l x y i j hx hy px py m = elim m.joined [
  | inl same ↦
      top-one t c l.rise (altitude t (parent t y)) (parent t y) i j (c.within y ny) (subst (λ (z : ℕ). IsPlateau t (parent t z) i) same px) py
  | inr e ↦
      let k = e.0.weight in
      let w = plateau-walk s k e.0 x e.1.1.0 y e.1.0.0 refl e.1.0.1 e.1.1.1 in
      let fx = minimum-leaf t s l e.0 x e.1.0.0 e.1.0.1 in
      let fy = minimum-leaf t s l w.edge y w.minimum w.at in
      let tx : IsTop t k x i = top-parent t k x i (subst (λ (m' : ℕ). IsTop t m' (parent t x) i) fx.level px) in
      let ty : IsTop t k y j = top-parent t k y j (subst (λ (m' : ℕ). IsTop t m' (parent t y) j) (fy.level ∙ w.weight) py) in
      let a : IsAbove t i y = top-over t s l k x i y hx hy tx (level-light s k x y e.1.1) in
      (top-shares t c l.rise k x y i j nx ny tx ty).0 (i, (tx.low, (tx.above, a)))
]
  where
    c : IsClimbing t
    c = well_formed-climbs t l.well_formed

    nx : x < length t.parents
    nx = leaf-node t l.well_formed x hx

    ny : y < length t.parents
    ny = leaf-node t l.well_formed y hy

-- who has a key is in a minimum
pub key-member : (t : ParentTree) (s : EdgeList) → IsLevelled t s → (keys : List (Option ℕ)) → ArePlateauKeys t t.leaves keys → (x : ℕ) → x < t.leaves → has_key keys x ≡ in_minimum t.leaves s x
key-member t s l keys k x hx =
    let key = k.each x hx in
    elim key.1.1 [
      | inl own ↦ rw own.0 (sym (in_minimum-from t.leaves s x (quiet-member t s l x key.0 hx key.1.0 own.1)))
      | inr none' ↦ rw none'.0 (sym (false_from_ne_true (in_minimum t.leaves s x) (λ m. member-quiet t s l x key.0 hx key.1.0 (in_minimum-to t.leaves s x m) none'.1)))
    ]

-- and who has one key is in one minimum
pub key-same : (t : ParentTree) (s : EdgeList) → IsLevelled t s → (keys : List (Option ℕ)) → ArePlateauKeys t t.leaves keys → (x y : ℕ) → x < t.leaves → y < t.leaves → same_key keys x y ≡ same_minimum t.leaves s x y
key-same t s l keys k x y hx hy =
    let kx = k.each x hx in
    let ky = k.each y hy in
    elim kx.1.1 [
      | inr none' ↦ rw none'.0 (sym (false_from_ne_true (same_minimum t.leaves s x y) (λ m. member-quiet t s l x kx.0 hx kx.1.0 (same_minimum-to t.leaves s x y m).first none'.1)))
      | inl ox ↦ elim ky.1.1 [
        | inr none' ↦ rw (ox.0, none'.0) (sym (false_from_ne_true (same_minimum t.leaves s x y) (λ m. member-quiet t s l y ky.0 hy ky.1.0 (same_minimum-to t.leaves s x y m).second none'.1)))
        | inl oy ↦ rw (ox.0, oy.0) (same_test (kx.0 == ky.0) (same_minimum t.leaves s x y)
            (λ e. same_minimum-from t.leaves s x y
            (plateau-same t s l x y ky.0 hx hy (subst (λ (j : ℕ). IsPlateau t (parent t x) j) (eqb-true kx.0 ky.0 e) kx.1.0) ky.1.0
            (quiet-member t s l x kx.0 hx kx.1.0 ox.1) (quiet-member t s l y ky.0 hy ky.1.0 oy.1)))
            (λ m. eq-eqb kx.0 ky.0 (same-plateau t s l x y kx.0 ky.0 hx hy kx.1.0 ky.1.0 (same_minimum-to t.leaves s x y m))))
      ]
    ]
