-- What waits at the roots, and what the free nodes that pass cost.
use Rattle.std.proofs.Common.{◌≡◌, ℕ, zero, suc, ◌+◌, ◌-◌, ◌<◌, ◌≤◌, Bool, true, false, inl, inr, refl, sym, ◌∙◌, ap, arith, length}
use Rattle.std.specs.Prelude.{◌==◌, ◌&&◌, ◌||◌, not, nat_le}
use Rattle.std.proofs.lemmas.Bool.{cases_Bool, cases_eq, cases_lt, and_from, and_right, or_left, or_right, eq-eqb, ne_eqb, le-leb, lt-leb}
use Rattle.tree_laws.specs.Tree.{ParentTree, parent}
use Rattle.tree_laws.specs.Levels.{IsClimbing}
use Rattle.partition_tree.specs.Children.{is_child}
use Rattle.energy_cut.proofs.Totals.{total, total-pass, total-skip, total-agree, total-none, total-split, total-cut, IsSplit}
use Rattle.energy_cut.proofs.Covers.{free, free-root, free-next}

-- node j is a root
abbrev pub is_root : ParentTree → ℕ → Bool
is_root t j = parent t j == j

-- node j is free, and no node before i is its parent but a root
abbrev pub waits : ParentTree → (ℕ → Bool) → ℕ → ℕ → Bool
waits t p i j = free t p j && (is_root t j || nat_le i (parent t j))

-- node j is free and a child of i
abbrev pub hands_on : ParentTree → (ℕ → Bool) → ℕ → ℕ → Bool
hands_on t p i j = free t p j && is_child t i j

-- the sum over the children of i
abbrev pub below_sum : ParentTree → (ℕ → ℕ) → ℕ → ℕ
below_sum t f i = total (is_child t i) f (length t.parents)

pub is_child-from : (t : ParentTree) (i j : ℕ) → parent t j ≡ i → (parent t j ≡ j → ⊥) → is_child t i j ≡ true
is_child-from t i j e inner = and_from _ _ (eq-eqb (parent t j) i e) (ap not (ne_eqb (parent t j) j inner))

pub not_child-from : (t : ParentTree) (i j : ℕ) → (parent t j ≡ i → ⊥) → is_child t i j ≡ false
not_child-from t i j e = rw (ne_eqb (parent t j) i e) refl

pub root-child : (t : ParentTree) (i j : ℕ) → parent t j ≡ j → is_child t i j ≡ false
root-child t i j root = and_right (parent t j == i) (not (parent t j == j)) (ap not (eq-eqb (parent t j) j root))

-- children come before their parents
pub below_sum-cut : (t : ParentTree) → IsClimbing t → (f : ℕ → ℕ) (i : ℕ) → i < length t.parents → below_sum t f i ≡ total (is_child t i) f i
below_sum-cut t c f i h = total-cut (is_child t i) f i (length t.parents) (omega arith) (λ j low high. elim (cases_eq (parent t j) j) [
  | inl root ↦ root-child t i j root
  | inr inner ↦ not_child-from t i j (λ e. let up : j ≤ parent t j = c.rises j high in absurd (inner (omega arith)))
])

-- a node whose parent is done waits no more
not_waiting : (t : ParentTree) (p : ℕ → Bool) (i j : ℕ) → (parent t j ≡ j → ⊥) → parent t j < i → waits t p i j ≡ false
not_waiting t p i j inner low = and_right (free t p j) (is_root t j || nat_le i (parent t j)) (rw (ne_eqb (parent t j) j inner) (lt-leb i (parent t j) low))

-- what waits before i is what waits after it, and the free children of i
waits-split : (t : ParentTree) → (p : ℕ → Bool) (i j : ℕ) → j < i → IsSplit (waits t p (suc i) j) (hands_on t p i j) (waits t p i j)
waits-split t p i j l = elim (cases_Bool (free t p j)) [
  | inr taken ↦ inr (inr (rw taken refl, rw taken refl, rw taken refl))
  | inl open' ↦ elim (cases_eq (parent t j) j) [
    | inl root ↦ inl (
      and_from _ _ open' (or_left _ _ (eq-eqb (parent t j) j root)),
      and_right _ _ (root-child t i j root),
      and_from _ _ open' (or_left _ _ (eq-eqb (parent t j) j root)),
    )
    | inr inner ↦ elim (cases_eq (parent t j) i) [
      | inl here ↦ inr (inl (
        not_waiting t p (suc i) j inner (omega arith),
        and_from _ _ open' (is_child-from t i j here inner),
        and_from _ _ open' (or_right _ _ (le-leb i (parent t j) (omega arith))),
      ))
      | inr other ↦ elim (cases_lt i (parent t j)) [
        | inl later ↦ inl (
          and_from _ _ open' (or_right _ _ (le-leb (suc i) (parent t j) (omega arith))),
          and_right _ _ (not_child-from t i j other),
          and_from _ _ open' (or_right _ _ (le-leb i (parent t j) (omega arith))),
        )
        | inr done ↦
            let before : parent t j < i = grind (arith, done, other) in
            inr (inr (
              not_waiting t p (suc i) j inner (omega arith),
              and_right _ _ (not_child-from t i j other),
              not_waiting t p i j inner before,
            ))
      ]
    ]
  ]
]

-- a node waits once it is done, where it is free
waits-own : (t : ParentTree) → IsClimbing t → (p : ℕ → Bool) (i : ℕ) → i < length t.parents → waits t p (suc i) i ≡ free t p i
waits-own t c p i h = elim (cases_Bool (free t p i)) [
  | inr taken ↦ rw taken refl
  | inl open' ↦ elim (cases_eq (parent t i) i) [
    | inl root ↦ and_from _ _ open' (or_left _ _ (eq-eqb (parent t i) i root)) ∙ sym open'
    | inr inner ↦
        let le : i ≤ parent t i = c.rises i h in
        let up : suc i ≤ parent t i = grind (arith, le, inner) in
        and_from _ _ open' (or_right _ _ (le-leb (suc i) (parent t i) up)) ∙ sym open'
  ]
]

-- the children of a free node that doesn't pass are free, those of another aren't
child-free : (t : ParentTree) → IsClimbing t → (p : ℕ → Bool) (i j : ℕ) → j < length t.parents → free t p i ≡ true → p i ≡ false → hands_on t p i j ≡ is_child t i j
child-free t c p i j h open' off = elim (cases_eq (parent t j) j) [
  | inl root ↦ and_right _ _ (root-child t i j root) ∙ sym (root-child t i j root)
  | inr inner ↦ elim (cases_eq (parent t j) i) [
    | inr other ↦ and_right _ _ (not_child-from t i j other) ∙ sym (not_child-from t i j other)
    | inl here ↦
        let next : free t p j ≡ true = free-next t c p j h inner ∙ and_from _ _ (ap (free t p) here ∙ open') (ap not (ap p here ∙ off)) in
        rw next refl
  ]
]

child-taken : (t : ParentTree) → IsClimbing t → (p : ℕ → Bool) (i j : ℕ) → j < length t.parents → (free t p i && not (p i)) ≡ false → hands_on t p i j ≡ false
child-taken t c p i j h closed = elim (cases_eq (parent t j) j) [
  | inl root ↦ and_right _ _ (root-child t i j root)
  | inr inner ↦ elim (cases_eq (parent t j) i) [
    | inr other ↦ and_right _ _ (not_child-from t i j other)
    | inl here ↦
        let next : free t p j ≡ false = free-next t c p j h inner ∙ ap (λ (k : ℕ). free t p k && not (p k)) here ∙ closed in
        rw next refl
  ]
]

-- the free nodes before i that don't pass lose what their children have above their own
abbrev pub lost : ParentTree → (ℕ → Bool) → (ℕ → ℕ) → ℕ → ℕ
lost t p f i = total (λ k. free t p k && not (p k)) (λ k. below_sum t f k - f k) i

-- what waits and what was lost is what the free nodes cost that pass
pub balance : (t : ParentTree) → IsClimbing t → (p : ℕ → Bool) (f : ℕ → ℕ) → ((k : ℕ) → k < length t.parents → free t p k ≡ true → p k ≡ false → f k ≤ below_sum t f k) →
    (i : ℕ) → i ≤ length t.parents → total (waits t p i) f i + lost t p f i ≡ total (λ k. free t p k && p k) f i
balance t c p f fits zero h = refl
balance t c p f fits (suc i) h =
    let rest : total (waits t p i) f i + lost t p f i ≡ total (λ k. free t p k && p k) f i = balance t c p f fits i (omega arith) in
    let split : total (waits t p i) f i ≡ total (waits t p (suc i)) f i + total (hands_on t p i) f i = total-split (waits t p (suc i)) (hands_on t p i) (waits t p i) f i (λ j l. waits-split t p i j l) in
    let own : waits t p (suc i) i ≡ free t p i = waits-own t c p i (omega arith) in
    elim (cases_Bool (free t p i)) [
      | inr taken ↦
          let none' : total (hands_on t p i) f i ≡ 0 = total-none (hands_on t p i) f i (λ j l. child-taken t c p i j (omega arith) (rw taken refl)) in
          let a : total (waits t p (suc i)) f (suc i) ≡ total (waits t p (suc i)) f i = total-skip (waits t p (suc i)) f i (own ∙ taken) in
          let b : lost t p f (suc i) ≡ lost t p f i = total-skip (λ k. free t p k && not (p k)) (λ k. below_sum t f k - f k) i (rw taken refl) in
          let d : total (λ k. free t p k && p k) f (suc i) ≡ total (λ k. free t p k && p k) f i = total-skip (λ k. free t p k && p k) f i (rw taken refl) in
          omega arith
      | inl open' ↦
          let a : total (waits t p (suc i)) f (suc i) ≡ total (waits t p (suc i)) f i + f i = total-pass (waits t p (suc i)) f i (own ∙ open') in
          elim (cases_Bool (p i)) [
            | inl passes ↦
                let none' : total (hands_on t p i) f i ≡ 0 = total-none (hands_on t p i) f i (λ j l. child-taken t c p i j (omega arith) (rw (open', passes) refl)) in
                let b : lost t p f (suc i) ≡ lost t p f i = total-skip (λ k. free t p k && not (p k)) (λ k. below_sum t f k - f k) i (rw (open', passes) refl) in
                let d : total (λ k. free t p k && p k) f (suc i) ≡ total (λ k. free t p k && p k) f i + f i = total-pass (λ k. free t p k && p k) f i (rw (open', passes) refl) in
                omega arith
            | inr off ↦
                let all : total (hands_on t p i) f i ≡ total (is_child t i) f i = total-agree (hands_on t p i) (is_child t i) f f i (λ j l. child-free t c p i j (omega arith) open' off) (λ j l e. refl) in
                let cut : below_sum t f i ≡ total (is_child t i) f i = below_sum-cut t c f i (omega arith) in
                let le : f i ≤ below_sum t f i = fits i (omega arith) open' off in
                let b : lost t p f (suc i) ≡ lost t p f i + (below_sum t f i - f i) = total-pass (λ k. free t p k && not (p k)) (λ k. below_sum t f k - f k) i (rw (open', off) refl) in
                let d : total (λ k. free t p k && p k) f (suc i) ≡ total (λ k. free t p k && p k) f i = total-skip (λ k. free t p k && p k) f i (rw (open', off) refl) in
                omega arith
          ]
    ]

-- in the end the roots wait
pub waits-roots : (t : ParentTree) → IsClimbing t → (p : ℕ → Bool) (f : ℕ → ℕ) → total (waits t p (length t.parents)) f (length t.parents) ≡ total (is_root t) f (length t.parents)
waits-roots t c p f = total-agree (waits t p (length t.parents)) (is_root t) f f (length t.parents)
    (λ j h. elim (cases_eq (parent t j) j) [
      | inl root ↦ and_from _ _ (free-root t p j root) (or_left _ _ (eq-eqb (parent t j) j root)) ∙ sym (eq-eqb (parent t j) j root)
      | inr inner ↦ not_waiting t p (length t.parents) j inner (c.within j h) ∙ sym (ne_eqb (parent t j) j inner)
    ])
    (λ j h e. refl)
