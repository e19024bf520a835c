-- Which nodes the zones keep, and the nearest kept ancestor of a node.
use Rattle.std.proofs.Common.{◌≡◌, ℕ, zero, suc, ◌+◌, ◌<◌, ◌≤◌, Bool, true, false, inl, inr, refl, sym, ◌∙◌, subst, ap, arith, length, map}
use Rattle.std.specs.Prelude.{Option, Some, find, unwrap_or}
use Rattle.std.specs.List.{range_with_len}
use Rattle.std.proofs.lemmas.Bool.{cases_Bool, cases_order, cases_eq, true≢false, both_ways, lt-ltb, ltb-false, eq-eqb, eqb-true, eqb-false, ne_eqb, or_left, or_right, or_parts, not_from_false, not-false, cond-true, cond-false}
use Rattle.tree_laws.specs.Tree.{ParentTree, parent, altitude, ancestor, IsAbove}
use Rattle.tree_laws.specs.Levels.{IsClimbing}
use Rattle.tree_laws.specs.Zones.{keeps, next_kept, nearest}
use Rattle.tree_laws.proofs.Climbs.{ancestor-first}

pub keeps-leaf : (t : ParentTree) (i : ℕ) → i < t.leaves → keeps t i ≡ true
keeps-leaf t i h = or_left _ _ (lt-ltb i t.leaves h)

pub keeps-root : (t : ParentTree) (i : ℕ) → parent t i ≡ i → keeps t i ≡ true
keeps-root t i h = or_right _ _ (or_left _ _ (eq-eqb (parent t i) i h))

pub keeps-other : (t : ParentTree) (i : ℕ) → (altitude t i ≡ altitude t (parent t i) → ⊥) → keeps t i ≡ true
keeps-other t i h = or_right _ _ (or_right _ _ (not_from_false _ (ne_eqb (altitude t i) (altitude t (parent t i)) h)))

-- a node that isn't kept is an inner node of its parent's altitude, and no root
pub record IsDropped (t : ParentTree) (i : ℕ) : Type 0 where
  pub inner : t.leaves ≤ i
  pub below : parent t i ≡ i → ⊥
  pub level : altitude t i ≡ altitude t (parent t i)

pub keeps-false : (t : ParentTree) (i : ℕ) → keeps t i ≡ false → IsDropped t i
keeps-false t i h =
    let parts = or_parts _ _ h in
    let rest = or_parts _ _ parts.1 in record {
      inner = ltb-false i t.leaves parts.0;
      below = eqb-false (parent t i) i rest.0;
      level = eqb-true (altitude t i) (altitude t (parent t i)) (not-false _ rest.1);
    }

-- a kept inner node that is no root has another altitude than its parent
pub keeps-differs : (t : ParentTree) (i : ℕ) → keeps t i ≡ true → t.leaves ≤ i → altitude t i ≡ altitude t (parent t i) → parent t i ≡ i
keeps-differs t i h inner level =
    elim (cases_eq (parent t i) i) [
      | inl root ↦ root
      | inr other ↦ absurd (dropped_not_kept other)
    ]
  where
    dropped_not_kept : (parent t i ≡ i → ⊥) → ⊥
    dropped_not_kept other = grind (arith, h, inner, level, other, true≢false)

-- b is the nearest kept proper ancestor of a
pub record IsNextKept (t : ParentTree) (a b : ℕ) : Type 0 where
  pub steps : ℕ
  pub at : ancestor t (suc steps) a ≡ b
  pub stays : keeps t b ≡ true
  pub before : (e : ℕ) → e < steps → keeps t (ancestor t (suc e) a) ≡ false

pub IsNextKept-one : (t : ParentTree) (a b c : ℕ) → IsNextKept t a b → IsNextKept t a c → b ≡ c
IsNextKept-one t a b c p q =
    elim (cases_order p.steps q.steps) [
      | inl level ↦ sym p.at ∙ ap (λ (d : ℕ). ancestor t (suc d) a) level ∙ q.at
      | inr other ↦ elim other [
        | inl low ↦ absurd (both_ways _ (q.before p.steps low) (ap (keeps t) p.at ∙ p.stays))
        | inr high ↦ absurd (both_ways _ (p.before q.steps high) (ap (keeps t) q.at ∙ q.stays))
      ]
    ]

-- some proper ancestor is kept
some_kept : (t : ParentTree) → IsClimbing t → (m i : ℕ) → i < length t.parents → length t.parents ≤ i + m →
    (d : ℕ) × ((d < m) × (keeps t (ancestor t (suc d) i) ≡ true))
some_kept t c zero i h le = absurd (omega arith)
some_kept t c (suc m) i h le =
    elim (cases_Bool (keeps t (parent t i))) [
      | inl here ↦ (0, (omega arith, here))
      | inr further ↦
          let off = keeps-false t (parent t i) further in
          let up : i ≤ parent t i = c.rises i h in
          let other : parent t i ≡ i → ⊥ = λ root. off.below (ap (parent t) root) in
          let higher : i < parent t i = grind (arith, up, other) in
          let rest = some_kept t c m (parent t i) (c.within i h) (omega arith) in
          (suc rest.0, (let low : rest.0 < m = rest.1.0 in omega arith, ap (keeps t) (sym (ancestor-first t (suc rest.0) i)) ∙ rest.1.1))
    ]

-- the first of the values of f at the numbers from a on that passes
record FirstValue (f : ℕ → ℕ) (p : ℕ → Bool) (a n : ℕ) : Type 0 where
  at : ℕ
  found : find p (map f (range_with_len a n)) ≡ Some (f at)
  passes : p (f at) ≡ true
  before : (j : ℕ) → a ≤ j → j < at → p (f j) ≡ false

first_value : (f : ℕ → ℕ) (p : ℕ → Bool) (a n d : ℕ) → a ≤ d → d < a + n → p (f d) ≡ true → FirstValue f p a n
first_value f p a zero d low high passes = absurd (omega arith)
first_value f p a (suc n) d low high passes =
    elim (cases_Bool (p (f a))) [
      | inl here ↦ record { at = a; found = rw here refl; passes = here; before = λ j l h. absurd (omega arith) }
      | inr off ↦ later off (first_value f p (a + 1) n d (past off) (omega arith) passes)
    ]
  where
    past : p (f a) ≡ false → a + 1 ≤ d
    past off = elim (cases_order a d) [
      | inl level ↦ absurd (both_ways _ off (ap (λ (j : ℕ). p (f j)) level ∙ passes))
      | inr other ↦ elim other [ inl lower ↦ omega arith | inr higher ↦ absurd (omega arith) ]
    ]

    later : p (f a) ≡ false → FirstValue f p (a + 1) n → FirstValue f p a (suc n)
    later off v = record {
      at = v.at;
      found = rw off v.found;
      passes = v.passes;
      before = λ j l h. elim (cases_order a j) [
        | inl level ↦ subst (λ (k : ℕ). p (f k) ≡ false) level off
        | inr other ↦ elim other [ inl lower ↦ v.before j (omega arith) h | inr higher ↦ absurd (omega arith) ]
      ];
    }

-- what the search along the path finds is the nearest kept proper ancestor
pub next_kept-is : (t : ParentTree) → IsClimbing t → (i : ℕ) → i < length t.parents → IsNextKept t i (next_kept t i)
next_kept-is t c i h =
    let some = some_kept t c (length t.parents) i h (omega arith) in
    let v = first_value (λ d. ancestor t (suc d) i) (keeps t) 0 (length t.parents) some.0 (omega arith) (let low : some.0 < length t.parents = some.1.0 in omega arith) some.1.1 in
    let e : next_kept t i ≡ ancestor t (suc v.at) i = ap (λ (o : Option ℕ). unwrap_or o i) v.found in record {
      steps = v.at;
      at = sym e;
      stays = ap (keeps t) e ∙ v.passes;
      before = λ j l. v.before j (omega arith) l;
    }

-- it is above the node
pub next_kept-above : (t : ParentTree) → IsClimbing t → (i : ℕ) → i < length t.parents → IsAbove t (next_kept t i) i
next_kept-above t c i h = let n = next_kept-is t c i h in (suc n.steps, n.at)

-- the nearest kept proper ancestor is the nearest kept node at or above the parent
pub next_kept-parent : (t : ParentTree) → IsClimbing t → (i : ℕ) → i < length t.parents → next_kept t i ≡ nearest t (parent t i)
next_kept-parent t c i h = elim (cases_Bool (keeps t (parent t i))) [
  | inl here ↦ rw here (IsNextKept-one t i _ _ (next_kept-is t c i h) (record { steps = 0; at = refl; stays = here; before = λ e l. absurd (omega arith) }))
  | inr off ↦
      let n = next_kept-is t c (parent t i) (c.within i h) in
      rw off (IsNextKept-one t i _ _ (next_kept-is t c i h) (record {
        steps = suc n.steps;
        at = sym (ancestor-first t (suc n.steps) i) ∙ n.at;
        stays = n.stays;
        before = further off n;
      }))
]
  where
    further : keeps t (parent t i) ≡ false → (n : IsNextKept t (parent t i) (next_kept t (parent t i))) → (e : ℕ) → e < suc n.steps → keeps t (ancestor t (suc e) i) ≡ false
    further off n zero l = off
    further off n (suc e) l = ap (keeps t) (sym (ancestor-first t (suc e) i)) ∙ n.before e (omega arith)

-- a kept node is its own nearest, and another has its parent's
pub nearest-kept : (t : ParentTree) (i : ℕ) → keeps t i ≡ true → nearest t i ≡ i
nearest-kept t i k = cond-true (keeps t i) i (next_kept t i) k

pub nearest-dropped : (t : ParentTree) → IsClimbing t → (i : ℕ) → i < length t.parents → keeps t i ≡ false → nearest t i ≡ nearest t (parent t i)
nearest-dropped t c i h k = cond-false (keeps t i) i (next_kept t i) k ∙ next_kept-parent t c i h
