-- Paths of a tree whose parents have no lesser numbers than their children.
use Rattle.std.proofs.Common.{◌≡◌, ℕ, zero, suc, ◌+◌, ◌-◌, ◌<◌, ◌≤◌, ◌⊎◌, inl, inr, refl, sym, ◌∙◌, subst, ap, arith, length}
use Rattle.std.proofs.lemmas.Bool.{cases_lt, cases_eq}
use Rattle.tree_laws.specs.Tree.{ParentTree, parent, altitude, ancestor, IsAbove}
use Rattle.tree_laws.specs.Levels.{IsClimbing, AltitudesRise}

-- so many links, and then more
pub ancestor-add : (t : ParentTree) (a b x : ℕ) → ancestor t (a + b) x ≡ ancestor t a (ancestor t b x)
ancestor-add t zero b x = let e : 0 + b ≡ b = omega arith in ap (λ (d : ℕ). ancestor t d x) e
ancestor-add t (suc a) b x =
    let e : suc a + b ≡ suc (a + b) = omega arith in
    ap (λ (d : ℕ). ancestor t d x) e ∙ ap (parent t) (ancestor-add t a b x)

-- the first link apart
pub ancestor-first : (t : ParentTree) (d i : ℕ) → ancestor t d (parent t i) ≡ ancestor t (suc d) i
ancestor-first t zero i = refl
ancestor-first t (suc d) i = ap (parent t) (ancestor-first t d i)

-- no link leads from a root to another node
pub ancestor-root : (t : ParentTree) (i : ℕ) → parent t i ≡ i → (d : ℕ) → ancestor t d i ≡ i
ancestor-root t i root zero = refl
ancestor-root t i root (suc d) = ap (parent t) (ancestor-root t i root d) ∙ root

pub above-on : (t : ParentTree) (j i x : ℕ) → IsAbove t j i → IsAbove t i x → IsAbove t j x
above-on t j i x a b = (a.0 + b.0, ancestor-add t a.0 b.0 x ∙ ap (ancestor t a.0) b.1 ∙ a.1)

pub above-parent : (t : ParentTree) (i x : ℕ) → IsAbove t i x → IsAbove t (parent t i) x
above-parent t i x a = (suc a.0, ap (parent t) a.1)

-- what is above i is i, or above its parent
pub above-next : (t : ParentTree) (j i : ℕ) → IsAbove t j i → (j ≡ i) ⊎ IsAbove t j (parent t i)
above-next t j i (zero, e) = inl (sym e)
above-next t j i (suc d, e) = inr (d, ancestor-first t d i ∙ e)

-- of two nodes above x one is above the other
pub above-either : (t : ParentTree) (i j x : ℕ) → IsAbove t i x → IsAbove t j x → IsAbove t i j ⊎ IsAbove t j i
above-either t i j x a b =
    elim (cases_lt a.0 b.0) [
      | inl fewer ↦ inr (further j i a b (omega arith))
      | inr more ↦ inl (further i j b a more)
    ]
  where
    further : (k l : ℕ) → (p : IsAbove t l x) → (q : IsAbove t k x) → p.0 ≤ q.0 → IsAbove t k l
    further k l p q le =
        let e : (q.0 - p.0) + p.0 ≡ q.0 = omega arith in
        (q.0 - p.0, ap (ancestor t (q.0 - p.0)) (sym p.1) ∙ sym (ancestor-add t (q.0 - p.0) p.0 x) ∙ ap (λ (d : ℕ). ancestor t d x) e ∙ q.1)

pub ancestor-within : (t : ParentTree) → IsClimbing t → (d x : ℕ) → x < length t.parents → ancestor t d x < length t.parents
ancestor-within t c zero x h = h
ancestor-within t c (suc d) x h = c.within (ancestor t d x) (ancestor-within t c d x h)

pub ancestor-rises : (t : ParentTree) → IsClimbing t → (d x : ℕ) → x < length t.parents → x ≤ ancestor t d x
ancestor-rises t c zero x h = omega arith
ancestor-rises t c (suc d) x h = omega (arith, ancestor-rises t c d x h, c.rises (ancestor t d x) (ancestor-within t c d x h))

-- what is above a node is a node of no lesser number
pub above-within : (t : ParentTree) → IsClimbing t → (i x : ℕ) → x < length t.parents → IsAbove t i x → i < length t.parents
above-within t c i x h a = subst (λ (j : ℕ). j < length t.parents) a.1 (ancestor-within t c a.0 x h)

pub above-rises : (t : ParentTree) → IsClimbing t → (i x : ℕ) → x < length t.parents → IsAbove t i x → x ≤ i
above-rises t c i x h a = subst (λ (j : ℕ). x ≤ j) a.1 (ancestor-rises t c a.0 x h)

-- nodes above each other are one
pub above-same : (t : ParentTree) → IsClimbing t → (i j : ℕ) → i < length t.parents → j < length t.parents → IsAbove t i j → IsAbove t j i → i ≡ j
above-same t c i j hi hj a b = omega (arith, above-rises t c i j hj a, above-rises t c j i hi b)

-- altitudes don't fall along a path
pub above-altitude : (t : ParentTree) → IsClimbing t → AltitudesRise t → (i x : ℕ) → x < length t.parents → IsAbove t i x → altitude t x ≤ altitude t i
above-altitude t c rise i x h a = subst (λ (j : ℕ). altitude t x ≤ altitude t j) a.1 (along a.0)
  where
    along : (d : ℕ) → altitude t x ≤ altitude t (ancestor t d x)
    along zero = omega arith
    along (suc d) = omega (arith, along d, rise (ancestor t d x) (ancestor-within t c d x h))

-- each ancestor of node i is met within as many links as there are nodes from i on
pub ancestor-short : (t : ParentTree) → IsClimbing t → (m i : ℕ) → i < length t.parents → length t.parents ≤ i + m → (d : ℕ) →
    (e : ℕ) × ((e < m) × (ancestor t e i ≡ ancestor t d i))
ancestor-short t c zero i h le d = absurd (omega arith)
ancestor-short t c (suc m) i h le zero = (0, (omega arith, refl))
ancestor-short t c (suc m) i h le (suc d) =
    elim (cases_eq (parent t i) i) [
      | inl root ↦ (0, (omega arith, sym (ancestor-root t i root (suc d))))
      | inr other ↦
          let up : i ≤ parent t i = c.rises i h in
          let higher : i < parent t i = grind (arith, up, other) in
          let rest = ancestor-short t c m (parent t i) (c.within i h) (omega arith) d in
          (suc rest.0, (let low : rest.0 < m = rest.1.0 in omega arith, sym (ancestor-first t rest.0 i) ∙ rest.1.1 ∙ ancestor-first t d i))
    ]
