-- Nodes strictly below a node that passes a test, and nodes that are free of one.
use Rattle.std.proofs.Common.{◌≡◌, ℕ, zero, suc, ◌+◌, ◌<◌, ◌≤◌, Bool, true, inl, inr, refl, sym, ◌∙◌, ap, arith, length}
use Rattle.std.specs.Prelude.{◌==◌, ◌&&◌, not}
use Rattle.std.specs.List.{range_with_len, list_any}
use Rattle.std.proofs.lemmas.Bool.{cases_Bool, cases_eq, and_parts, and_from, eq-eqb, ne_eqb, false_from_ne_true, both_ways}
use Rattle.tree_laws.specs.Tree.{ParentTree, parent, IsAbove}
use Rattle.tree_laws.specs.Levels.{IsClimbing, is_above}
use Rattle.tree_laws.proofs.Climbs.{ancestor-root, above-on, above-next, above-either, above-within, above-rises}
use Rattle.edge_laws.proofs.Sets.{same_test}
use Rattle.tree_laws.proofs.Tops.{is_above-from, is_above-to}
use Rattle.partition_tree.proofs.ListTests.{any-from, any-to, range-from}

-- another node that passes is above j
pub record IsCovered (t : ParentTree) (p : ℕ → Bool) (j : ℕ) : Type 0 where
  pub node : ℕ
  pub above : IsAbove t node j
  pub passes : p node ≡ true
  pub other : node ≡ j → ⊥

-- its test
abbrev pub covered : ParentTree → (ℕ → Bool) → ℕ → Bool
covered t p j = list_any (λ k. p k && (is_above t k j && not (k == j))) (range_with_len 0 (length t.parents))

-- no other node that passes is above j
abbrev pub free : ParentTree → (ℕ → Bool) → ℕ → Bool
free t p j = not (covered t p j)

pub covered-from : (t : ParentTree) → IsClimbing t → (p : ℕ → Bool) (j : ℕ) → j < length t.parents → IsCovered t p j → covered t p j ≡ true
covered-from t c p j h k =
    any-from (λ i. p i && (is_above t i j && not (i == j))) k.node (range_with_len 0 (length t.parents))
    (range-from 0 (length t.parents) k.node (omega arith) (let low : k.node < length t.parents = above-within t c k.node j h k.above in omega arith))
    (and_from _ _ k.passes (and_from _ _ (is_above-from t c k.node j h k.above) (ap not (ne_eqb k.node j k.other))))

pub covered-to : (t : ParentTree) (p : ℕ → Bool) (j : ℕ) → covered t p j ≡ true → IsCovered t p j
covered-to t p j h =
    let found = any-to (λ i. p i && (is_above t i j && not (i == j))) (range_with_len 0 (length t.parents)) h in
    let parts = and_parts _ _ found.1.1 in
    let both = and_parts _ _ parts.1 in
    record { node = found.0; above = is_above-to t found.0 j both.0; passes = parts.0; other = λ e. not_same found.0 both.1 e }
  where
    not_same : (k : ℕ) → not (k == j) ≡ true → k ≡ j → ⊥
    not_same k h e = both_ways (not (k == j)) (ap not (eq-eqb k j e)) h

-- a node is free or covered
pub free-from : (t : ParentTree) → (p : ℕ → Bool) (j : ℕ) → (IsCovered t p j → ⊥) → free t p j ≡ true
free-from t p j h = ap not (false_from_ne_true (covered t p j) (λ e. h (covered-to t p j e)))

pub free-to : (t : ParentTree) → IsClimbing t → (p : ℕ → Bool) (j : ℕ) → j < length t.parents → free t p j ≡ true → IsCovered t p j → ⊥
free-to t c p j h e k = both_ways (free t p j) (ap not (covered-from t c p j h k)) e

-- a root is free
pub free-root : (t : ParentTree) (p : ℕ → Bool) (j : ℕ) → parent t j ≡ j → free t p j ≡ true
free-root t p j root = free-from t p j (λ k. k.other (sym k.above.1 ∙ ancestor-root t j root k.above.0))

-- another node is free where its parent is free and doesn't pass
pub free-next : (t : ParentTree) → IsClimbing t → (p : ℕ → Bool) (j : ℕ) → j < length t.parents → (parent t j ≡ j → ⊥) → free t p j ≡ (free t p (parent t j) && not (p (parent t j)))
free-next t c p j h inner = same_test _ _
    (λ e. and_from _ _
    (free-from t p (parent t j) (λ k. free-to t c p j h e (record {
      node = k.node;
      above = above-on t k.node (parent t j) j k.above (1, refl);
      passes = k.passes;
      other = λ same. (let low : parent t j ≤ k.node = above-rises t c k.node (parent t j) (c.within j h) k.above in absurd (omega arith));
    })))
    (ap not (false_from_ne_true (p (parent t j)) (λ passes. free-to t c p j h e (record { node = parent t j; above = (1, refl); passes = passes; other = inner })))))
    (λ e. let parts = and_parts _ _ e in free-from t p j (λ k. elim (above-next t k.node j k.above) [
      | inl same ↦ k.other same
      | inr up ↦ elim (cases_eq k.node (parent t j)) [
        | inl here ↦ both_ways (not (p (parent t j))) (ap not (ap p (sym here) ∙ k.passes)) parts.1
        | inr higher ↦ free-to t c p (parent t j) (c.within j h) parts.0 (record { node = k.node; above = up; passes = k.passes; other = higher })
      ]
    ]))
  where
    up : j < parent t j
    up = let le : j ≤ parent t j = c.rises j h in grind (arith, le, inner)

-- a node that passes is below a free one that passes
pub highest : (t : ParentTree) → IsClimbing t → (p : ℕ → Bool) (m i : ℕ) → i < length t.parents → length t.parents ≤ i + m → p i ≡ true →
    (j : ℕ) × (IsAbove t j i × ((p j ≡ true) × (free t p j ≡ true)))
highest t c p zero i h le passes = absurd (omega arith)
highest t c p (suc m) i h le passes = elim (cases_Bool (covered t p i)) [
  | inl yes' ↦
      let k = covered-to t p i yes' in
      let low : i ≤ k.node = above-rises t c k.node i h k.above in
      let other : i ≡ k.node → ⊥ = λ e. k.other (sym e) in
      let less : i < k.node = grind (arith, low, other) in
      let rest = highest t c p m k.node (above-within t c k.node i h k.above) (omega arith) k.passes in
      (rest.0, (above-on t rest.0 k.node i rest.1.0 k.above, rest.1.1))
  | inr no' ↦ (i, ((0, refl), (passes, ap not no')))
]

-- of two free nodes that pass above x both are one
pub highest-one : (t : ParentTree) → IsClimbing t → (p : ℕ → Bool) (x i j : ℕ) → x < length t.parents → IsAbove t i x → IsAbove t j x → p i ≡ true → free t p i ≡ true → p j ≡ true → free t p j ≡ true → i ≡ j
highest-one t c p x i j h a b pi fi pj fj =
    elim (cases_eq i j) [
      | inl same ↦ same
      | inr other ↦ absurd (elim (above-either t i j x a b) [
        | inl over ↦ free-to t c p j (above-within t c j x h b) fj (record { node = i; above = over; passes = pi; other = other })
        | inr under ↦ free-to t c p i (above-within t c i x h a) fi (record { node = j; above = under; passes = pj; other = λ e. other (sym e) })
      ])
    ]
