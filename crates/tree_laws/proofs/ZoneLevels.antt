-- The zones of a level tree are the zones of its edges.
use Rattle.std.proofs.Common.{◌≡◌, ℕ, ◌<◌, ◌≤◌, true, inl, inr, refl, sym, ◌∙◌, subst, ap, arith, [], length}
use Rattle.std.specs.Prelude.{◌↔◌}
use Rattle.std.proofs.lemmas.Bool.{cases_lt}
use Rattle.edge_laws.specs.Edges.{EdgeList, Joined, joined}
use Rattle.edge_laws.specs.Saliency.{at_most}
use Rattle.tree_laws.specs.Tree.{ParentTree, parent, altitude, ancestor, IsAbove}
use Rattle.tree_laws.specs.Levels.{IsClimbing, AltitudesRise, Shares, shares, IsTop, IsLevelTree}
use Rattle.tree_laws.specs.Zones.{keeps, zone_number, zones_of, HasZone, AreZones}
use Rattle.edge_laws.proofs.Sets.{same_test}
use Rattle.edge_laws.proofs.Walks.{Joined-joined}
use Rattle.edge_laws.proofs.Drops.{holds}
use Rattle.edge_laws.proofs.Weights.{Joined-heavier}
use Rattle.tree_laws.proofs.Climbs.{ancestor-root, above-on, above-next, above-either, above-within, above-altitude}
use Rattle.tree_laws.proofs.Tops.{top_found, top-above, shares-from, shares-to}
use Rattle.tree_laws.proofs.Kept.{keeps-leaf, keeps-root, keeps-other, keeps-differs}
use Rattle.tree_laws.proofs.Zones.{zone-of, zone_number-within, zone_number-leaf, altitude-zone, zone-above}

-- what is asked of a tree whose zones are taken
pub record IsLevelForest (t : ParentTree) (s : EdgeList) : Type 0 where
  pub climbs : IsClimbing t
  pub rise : AltitudesRise t
  pub few_leaves : t.leaves ≤ length t.parents
  pub low_leaves : (x : ℕ) → x < t.leaves → altitude t x ≡ 0
  pub levels : IsLevelTree t s

-- leaves share a node of a level exactly where the edges of weight at most the level join them
pub shares-joined : (t : ParentTree) (s : EdgeList) → IsLevelTree t s → (level x y : ℕ) → x < t.leaves → y < t.leaves → Shares t level x y ↔ Joined (at_most s level) x y
shares-joined t s l level x y hx hy = (
  λ i. Joined-heavier s (altitude t i.0) level x y i.1.0 (l.joined_below i.0 x y hx hy i.1.1.0 i.1.1.1),
  λ j. let i = l.one_above level x hx in (i.0, (i.1.0, (i.1.1 x hx ([], refl), i.1.1 y hy j))),
)

-- the same of the tests
pub shares-joined_test : (t : ParentTree) (s : EdgeList) → IsClimbing t → t.leaves ≤ length t.parents → IsLevelTree t s → (level x y : ℕ) → x < t.leaves → y < t.leaves →
    shares t level x y ≡ joined (at_most s level) x y
shares-joined_test t s c few l level x y hx hy = same_test _ _
    (λ e. holds (at_most s level) x y ((shares-joined t s l level x y hx hy).0 (shares-to t level x y e)))
    (λ e. shares-from t c level x y (omega arith) (omega arith) ((shares-joined t s l level x y hx hy).1 (Joined-joined (at_most s level) x y e)))

-- the last node of a path up to a level is kept
top-kept : (t : ParentTree) (level i j : ℕ) → IsTop t level i j → keeps t j ≡ true
top-kept t level i j top = elim top.last [
  | inl root ↦ keeps-root t j root
  | inr high ↦ keeps-other t j (λ same. let low : altitude t j ≤ level = top.low in omega arith)
]

-- the leaves below a kept node, among the zones too
zone-leaves : (t : ParentTree) (s : EdgeList) → IsLevelForest t s → (i y : ℕ) → i < length t.parents → keeps t i ≡ true → y < t.leaves →
    IsAbove (zones_of t) (zone_number t i) y ↔ IsAbove t i y
zone-leaves t s f i y h k hy =
    let few : t.leaves ≤ length t.parents = f.few_leaves in
    subst (λ (x : ℕ). IsAbove (zones_of t) (zone_number t i) x ↔ IsAbove t i y) (zone_number-leaf t y (omega arith))
    (zone-above t f.climbs i y h (omega arith) k (keeps-leaf t y hy))

-- the last node of x's path up to a level has the component of x at that level below it
top-component : (t : ParentTree) (s : EdgeList) → IsLevelForest t s → (level x j y : ℕ) → x < t.leaves → y < t.leaves → IsTop t level x j → IsAbove t j y ↔ Joined (at_most s level) x y
top-component t s f level x j y hx hy top =
    let few : t.leaves ≤ length t.parents = f.few_leaves in (
      λ a. Joined-heavier s (altitude t j) level x y top.low (f.levels.joined_below j x y hx hy top.above a),
      λ w.
          let i = f.levels.one_above level x hx in
          above-on t j i.0 y
          (top-above t f.climbs f.rise level x j i.0 (omega arith) top (i.1.1 x hx ([], refl)) i.1.0)
          (i.1.1 y hy w),
    )

-- each component at a level is the vertex set of a zone
zone-component : (t : ParentTree) (s : EdgeList) → IsLevelForest t s → (k x : ℕ) → x < t.leaves → (i : ℕ) × ((i < length (zones_of t).parents) × HasZone (zones_of t) t.leaves s i k x)
zone-component t s f k x hx =
    let few : t.leaves ≤ length t.parents = f.few_leaves in
    let flat : altitude t x ≡ 0 = f.low_leaves x hx in
    let top = top_found t f.climbs k (length t.parents) x (omega arith) (omega arith) (omega arith) in
    let j = top.0 in
    let within = above-within t f.climbs j x (omega arith) top.1.above in
    let stays = top-kept t k x j top.1 in (
      zone_number t j,
      (
        zone_number-within t j within stays,
        λ y hy.
            let z = zone-leaves t s f j y within stays hy in
            let w = top-component t s f k x j y hx hy top.1 in
            (λ a. w.0 (z.0 a), λ a. z.1 (w.1 a)),
      ),
    )

-- zones with the same vertices are one
zone-once : (t : ParentTree) (s : EdgeList) → IsLevelForest t s → (k x i j : ℕ) → i < length (zones_of t).parents → j < length (zones_of t).parents →
    HasZone (zones_of t) t.leaves s i k x → HasZone (zones_of t) t.leaves s j k x → i ≡ j
zone-once t s f k x i j hi hj zi zj =
    let a = zone-of t i hi in
    let b = zone-of t j hj in
    let za : HasZone (zones_of t) t.leaves s (zone_number t a.0) k x = subst (λ (m : ℕ). HasZone (zones_of t) t.leaves s m k x) (sym a.1.place) zi in
    let zb : HasZone (zones_of t) t.leaves s (zone_number t b.0) k x = subst (λ (m : ℕ). HasZone (zones_of t) t.leaves s m k x) (sym b.1.place) zj in
    let same : a.0 ≡ b.0 = f.levels.once a.0 b.0 a.1.low b.1.low (λ y hy.
    let p = zone-leaves t s f a.0 y a.1.low a.1.passes hy in
    let q = zone-leaves t s f b.0 y b.1.low b.1.passes hy in
    (λ u. q.0 ((zb y hy).1 ((za y hy).0 (p.1 u))), λ u. p.0 ((za y hy).1 ((zb y hy).0 (q.1 u))))) in
    sym a.1.place ∙ ap (zone_number t) same ∙ b.1.place

-- a kept inner node is the last one of its altitude on its path
kept-last : (t : ParentTree) → IsClimbing t → AltitudesRise t → (i j : ℕ) → i < length t.parents → keeps t i ≡ true → t.leaves ≤ i → IsAbove t j i → altitude t j ≤ altitude t i → IsAbove t i j
kept-last t c rise i j h k inner a low =
    elim (above-next t j i a) [
      | inl same ↦ (0, same)
      | inr over ↦
          let level : altitude t i ≡ altitude t (parent t i) = omega (arith, low, rise i h, above-altitude t c rise j (parent t i) (c.within i h) over) in
          let root = keeps-differs t i k inner level in
          (0, sym over.1 ∙ ap (ancestor t over.0) root ∙ ancestor-root t i root over.0)
    ]

-- each inner zone's vertices are the component at its altitude
zone-inner : (t : ParentTree) (s : EdgeList) → IsLevelForest t s → (j : ℕ) → t.leaves ≤ j → j < length (zones_of t).parents →
    (x : ℕ) × ((x < t.leaves) × HasZone (zones_of t) t.leaves s j (altitude (zones_of t) j) x)
zone-inner t s f j inner h =
    let few : t.leaves ≤ length t.parents = f.few_leaves in
    let z = zone-of t j h in
    let i = z.0 in
    let leaf = f.levels.some_leaf i z.1.low in
    let deep : t.leaves ≤ i = not_a_leaf z.0 z.1.place in
    let high : altitude (zones_of t) j ≡ altitude t i = ap (altitude (zones_of t)) (sym z.1.place) ∙ altitude-zone t i z.1.low z.1.passes in (
      leaf.0,
      (
        leaf.1.0,
        λ y hy.
            let p = zone-leaves t s f i y z.1.low z.1.passes hy in (
              λ a. subst (λ (k : ℕ). Joined (at_most s k) leaf.0 y) (sym high)
                  (f.levels.joined_below i leaf.0 y leaf.1.0 hy leaf.1.1 (p.0 (subst (λ (m : ℕ). IsAbove (zones_of t) m y) (sym z.1.place) a))),
              λ w. subst (λ (m : ℕ). IsAbove (zones_of t) m y) z.1.place (p.1 (met i leaf.0 y z.1.low z.1.passes deep leaf.1.0 hy leaf.1.1
                  (subst (λ (k : ℕ). Joined (at_most s k) leaf.0 y) high w))),
            ),
      ),
    )
  where
    not_a_leaf : (i : ℕ) → zone_number t i ≡ j → t.leaves ≤ i
    not_a_leaf i place = elim (cases_lt i t.leaves) [
      | inl low ↦ absurd (omega (arith, place, low, inner, zone_number-leaf t i (omega arith)))
      | inr high ↦ high
    ]

    met : (i x y : ℕ) → i < length t.parents → keeps t i ≡ true → t.leaves ≤ i → x < t.leaves → y < t.leaves → IsAbove t i x → Joined (at_most s (altitude t i)) x y → IsAbove t i y
    met i x y hi ki deep hx hy a w =
        let over = f.levels.one_above (altitude t i) x hx in
        let to_y = over.1.1 y hy w in
        elim (above-either t i over.0 x a (over.1.1 x hx ([], refl))) [
          | inl up ↦ above-on t i over.0 y up to_y
          | inr down ↦ above-on t i over.0 y (kept-last t f.climbs f.rise i over.0 hi ki deep down over.1.0) to_y
        ]

-- The zones of a level tree are the zones of its edges.
pub zones-are : (t : ParentTree) (s : EdgeList) → IsLevelForest t s → AreZones (zones_of t) t.leaves s
zones-are t s f = record {
  each_component = zone-component t s f;
  once = λ k x i j hx hi hj zi zj. zone-once t s f k x i j hi hj zi zj;
  each_inner = zone-inner t s f;
}
