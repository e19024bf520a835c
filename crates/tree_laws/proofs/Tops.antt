-- The last node of a path up to a level, and which leaves share a node of that level.
use Rattle.std.proofs.Common.{◌≡◌, ℕ, zero, suc, ◌+◌, ◌<◌, ◌≤◌, Bool, true, ◌⊎◌, inl, inr, refl, sym, ◌∙◌, subst, ap, arith, length, get_or}
use Rattle.std.specs.Prelude.{◌↔◌, ◌==◌, ◌&&◌, nat_le}
use Rattle.std.specs.List.{range_with_len, list_any}
use Rattle.std.proofs.lemmas.Bool.{cases_lt, cases_eq, eqb-true, eq-eqb, le-leb, leb-true, and_parts, and_from}
use Rattle.std.proofs.lemmas.List.Folds.{list_any_at, Any-from_list_any}
use Rattle.std.proofs.lemmas.List.FromFn.{length-range_with_len, get_or-range_with_len}
use Rattle.tree_laws.specs.Tree.{ParentTree, parent, altitude, ancestor, IsAbove}
use Rattle.tree_laws.specs.Levels.{IsClimbing, AltitudesRise, Shares, is_above, shares, IsTop}
use Rattle.tree_laws.proofs.Climbs.{ancestor-root, above-on, above-next, above-either, above-within, above-same, above-altitude, ancestor-short}

-- a number of a range that passes makes the range's test true
any_in_range : (p : ℕ → Bool) (n i : ℕ) → i < n → p i ≡ true → list_any p (range_with_len 0 n) ≡ true
any_in_range p n i h passes =
    let e : get_or (range_with_len 0 n) i 0 ≡ i = get_or-range_with_len 0 n i 0 h ∙ omega arith in
    list_any_at p (range_with_len 0 n) i 0 (omega (arith, h, length-range_with_len 0 n)) (subst (λ (j : ℕ). p j ≡ true) (sym e) passes)

-- the test of "above" says what it is to say
pub is_above-from : (t : ParentTree) → IsClimbing t → (i x : ℕ) → x < length t.parents → IsAbove t i x → is_above t i x ≡ true
is_above-from t c i x h a =
    let short = ancestor-short t c (length t.parents) x h (omega arith) a.0 in
    any_in_range (λ d. ancestor t d x == i) (length t.parents) short.0 short.1.0 (eq-eqb (ancestor t short.0 x) i (short.1.1 ∙ a.1))

pub is_above-to : (t : ParentTree) (i x : ℕ) → is_above t i x ≡ true → IsAbove t i x
is_above-to t i x h =
    let found = Any-from_list_any (λ d. ancestor t d x == i) (range_with_len 0 (length t.parents)) h in
    (found.1, eqb-true (ancestor t found.1 x) i found.4)

-- and so does the test of "share a node of the level"
pub shares-from : (t : ParentTree) → IsClimbing t → (level x y : ℕ) → x < length t.parents → y < length t.parents → Shares t level x y → shares t level x y ≡ true
shares-from t c level x y hx hy s =
    any_in_range (λ i. nat_le (altitude t i) level && (is_above t i x && is_above t i y)) (length t.parents) s.0 (above-within t c s.0 x hx s.1.1.0)
    (and_from _ _ (le-leb (altitude t s.0) level s.1.0) (and_from _ _ (is_above-from t c s.0 x hx s.1.1.0) (is_above-from t c s.0 y hy s.1.1.1)))

pub shares-to : (t : ParentTree) (level x y : ℕ) → shares t level x y ≡ true → Shares t level x y
shares-to t level x y h =
    let found = Any-from_list_any (λ i. nat_le (altitude t i) level && (is_above t i x && is_above t i y)) (range_with_len 0 (length t.parents)) h in
    let parts = and_parts _ _ found.4 in
    let both = and_parts _ _ parts.1 in
    (found.1, (leb-true (altitude t found.1) level parts.0, (is_above-to t found.1 x both.0, is_above-to t found.1 y both.1)))

-- a node of the level has a last one
pub top_found : (t : ParentTree) → IsClimbing t → (level m i : ℕ) → i < length t.parents → length t.parents ≤ i + m → altitude t i ≤ level → (j : ℕ) × IsTop t level i j
top_found t c level zero i h le low = absurd (omega arith)
top_found t c level (suc m) i h le low =
    elim (cases_eq (parent t i) i) [
      | inl root ↦ (i, record { above = (0, refl); low = low; last = inl root })
      | inr other ↦ elim (cases_lt level (altitude t (parent t i))) [
        | inl high ↦ (i, record { above = (0, refl); low = low; last = inr high })
        | inr still ↦
            let up : i ≤ parent t i = c.rises i h in
            let higher : i < parent t i = grind (arith, up, other) in
            let rest = top_found t c level m (parent t i) (c.within i h) (omega arith) still in
            (rest.0, record { above = above-on t rest.0 (parent t i) i rest.1.above (1, refl); low = rest.1.low; last = rest.1.last })
      ]
    ]

-- it is above each node of the level on the path
pub top-above : (t : ParentTree) → IsClimbing t → AltitudesRise t → (level i j k : ℕ) → i < length t.parents → IsTop t level i j → IsAbove t k i → altitude t k ≤ level → IsAbove t j k
top-above t c rise level i j k h top a low =
    elim (above-either t j k i top.above a) [ inl over ↦ over | inr under ↦ beyond (above-next t k j under) ]
  where
    hj : j < length t.parents
    hj = above-within t c j i h top.above

    beyond : (k ≡ j) ⊎ IsAbove t k (parent t j) → IsAbove t j k
    beyond (inl same) = (0, same)
    beyond (inr over) = elim top.last [
      | inl root ↦ (0, sym over.1 ∙ ap (ancestor t over.0) root ∙ ancestor-root t j root over.0)
      | inr high ↦ absurd (omega (arith, high, low, above-altitude t c rise k (parent t j) (c.within j hj) over))
    ]

-- nodes share a node of the level exactly where their last ones are one
pub top-shares : (t : ParentTree) → IsClimbing t → AltitudesRise t → (level x y i j : ℕ) → x < length t.parents → y < length t.parents → IsTop t level x i → IsTop t level y j →
    Shares t level x y ↔ (i ≡ j)
top-shares t c rise level x y i j hx hy tx ty = (
  λ s.
      let a = top-above t c rise level x i s.0 hx tx s.1.1.0 s.1.0 in
      let b = top-above t c rise level y j s.0 hy ty s.1.1.1 s.1.0 in
      let hi : i < length t.parents = above-within t c i x hx tx.above in
      let hj : j < length t.parents = above-within t c j y hy ty.above in
      above-same t c i j hi hj
      (top-above t c rise level x i j hx tx (above-on t j s.0 x b s.1.1.0) ty.low)
      (top-above t c rise level y j i hy ty (above-on t i s.0 y a s.1.1.1) tx.low),
  λ same. (i, (tx.low, (tx.above, subst (λ (k : ℕ). IsAbove t k y) (sym same) ty.above))),
)

-- the last node of the parent's path is that of the node's, where the parent is up to the level
pub top-parent : (t : ParentTree) (level i j : ℕ) → IsTop t level (parent t i) j → IsTop t level i j
top-parent t level i j top = record { above = above-on t j (parent t i) i top.above (1, refl); low = top.low; last = top.last }

-- else it is the node itself
pub top-self : (t : ParentTree) (level i : ℕ) → altitude t i ≤ level → (parent t i ≡ i) ⊎ (level < altitude t (parent t i)) → IsTop t level i i
top-self t level i low last = record { above = (0, refl); low = low; last = last }
