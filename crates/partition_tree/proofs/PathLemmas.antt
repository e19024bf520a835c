-- Paths up a tree in which no link leads down.
use Rattle.std.proofs.Common.{◌≡◌, ◌≢◌, ℕ, zero, suc, ◌+◌, ◌-◌, ◌<◌, ◌≤◌, ◌⊎◌, inl, inr, refl, sym, ◌∙◌, subst, ap, arith}
use Rattle.std.specs.Prelude.{◌↔◌, Option, Some, None, MatchOption, unwrap_or}
use Rattle.std.proofs.lemmas.Option.{slice_get_past}
use Rattle.std.proofs.lemmas.Bool.{cases_order}
use Rattle.std.proofs.lemmas.Bool.Decides.{eqb_tells}
use Rattle.tree_laws.specs.Tree.{ParentTree, parent, ancestor, IsAbove, IsLowestAbove}
use Rattle.partition_tree.specs.TreeLists.{nodes, IsWellFormed}
use Rattle.partition_tree.specs.Paths.{Rises, stop, IsRootOf, ShareRoot, IsCommon}

-- links further up, one walk after the other
pub ancestor-add : (t : ParentTree) (d e x : ℕ) → ancestor t d (ancestor t e x) ≡ ancestor t (d + e) x
ancestor-add t zero e x = ap (λ k. ancestor t k x) (let q : e ≡ 0 + e = omega arith in q)
ancestor-add t (suc d) e x =
    ap (parent t) (ancestor-add t d e x) ∙ ap (λ k. ancestor t k x) (let q : suc (d + e) ≡ suc d + e = omega arith in q)

pub above-self : (t : ParentTree) (x : ℕ) → IsAbove t x x
above-self t x = (0, refl)

pub above-parent : (t : ParentTree) (x : ℕ) → IsAbove t (parent t x) x
above-parent t x = (1, refl)

pub above-on : (t : ParentTree) (x y z : ℕ) → IsAbove t y x → IsAbove t z y → IsAbove t z x
above-on t x y z a b =
    (b.0 + a.0, sym (ancestor-add t b.0 a.0 x) ∙ ap (ancestor t b.0) a.1 ∙ b.1)

-- the node itself, or one above its parent
pub above-cases : (t : ParentTree) (x z : ℕ) → IsAbove t z x → (z ≡ x) ⊎ IsAbove t z (parent t x)
above-cases t x z a = go a.0 a.1
  where
    go : (d : ℕ) → ancestor t d x ≡ z → (z ≡ x) ⊎ IsAbove t z (parent t x)
    go zero eq = inl (sym eq)
    go (suc d) eq = inr (d, ancestor-add t d 1 x ∙ ap (λ k. ancestor t k x) (let q : d + 1 ≡ suc d = omega arith in q) ∙ eq)

-- nothing but itself is above a root
pub above-root : (t : ParentTree) (r z : ℕ) → parent t r ≡ r → IsAbove t z r → z ≡ r
above-root t r z root a = sym a.1 ∙ stays a.0
  where
    stays : (d : ℕ) → ancestor t d r ≡ r
    stays zero = refl
    stays (suc d) = ap (parent t) (stays d) ∙ root

-- what is above a node isn't less
pub above-le : (t : ParentTree) → Rises t → (x z : ℕ) → IsAbove t z x → x ≤ z
above-le t rises x z a = subst (λ (k : ℕ). x ≤ k) a.1 (climb a.0)
  where
    climb : (d : ℕ) → x ≤ ancestor t d x
    climb zero = omega arith
    climb (suc d) = let here : x ≤ ancestor t d x = climb d in let up = rises (ancestor t d x) in omega arith

-- of two nodes above x the one that fewer links reach has the other above it
above-further : (t : ParentTree) (x d e a b : ℕ) → ancestor t d x ≡ a → ancestor t e x ≡ b → d ≤ e → IsAbove t b a
above-further t x d e a b p q le =
    let split : (e - d) + d ≡ e = omega arith in
    (e - d, ap (ancestor t (e - d)) (sym p) ∙ ancestor-add t (e - d) d x ∙ ap (λ k. ancestor t k x) split ∙ q)

pub above-line : (t : ParentTree) (x a b : ℕ) → IsAbove t a x → IsAbove t b x → IsAbove t b a ⊎ IsAbove t a b
above-line t x a b p q =
    elim (cases_order p.0 q.0) [
      | inl level ↦ inl (above-further t x p.0 q.0 a b p.1 q.1 (omega arith))
      | inr other ↦ elim other [
        | inl low ↦ inl (above-further t x p.0 q.0 a b p.1 q.1 (omega arith))
        | inr high ↦ inr (above-further t x q.0 p.0 b a q.1 p.1 (omega arith))
      ]
    ]

-- of two nodes above x the lesser has the greater as ancestor
pub above-lesser : (t : ParentTree) → Rises t → (x a b : ℕ) → IsAbove t a x → IsAbove t b x → a ≤ b → IsAbove t b a
above-lesser t rises x a b p q le =
    elim (above-line t x a b p q) [
      | inl up ↦ up
      | inr down ↦ (let back : b ≤ a = above-le t rises b a down in let same : a ≡ b = omega arith in (0, same))
    ]

-- `stop` at the next number
pub stop-here : (t : ParentTree) (x i : ℕ) → stop t x i ≡ i → stop t x (suc i) ≡ parent t i
stop-here t x i h =
    elim (eqb_tells (stop t x i) i) [ inl yes' ↦ rw yes'.0 refl | inr no' ↦ absurd (no'.1 h) ]

pub stop-past : (t : ParentTree) (x i : ℕ) → stop t x i ≢ i → stop t x (suc i) ≡ stop t x i
stop-past t x i h =
    elim (eqb_tells (stop t x i) i) [ inl yes' ↦ absurd (h yes'.1) | inr no' ↦ rw no'.0 refl ]

pub stop-cases : (t : ParentTree) (x i : ℕ) → (stop t x i ≡ i) ⊎ (stop t x i ≢ i)
stop-cases t x i = elim (eqb_tells (stop t x i) i) [ inl yes' ↦ inl yes'.1 | inr no' ↦ inr no'.1 ]

-- `stop` is on the path
pub stop-above : (t : ParentTree) (x i : ℕ) → IsAbove t (stop t x i) x
stop-above t x zero = (0, refl)
stop-above t x (suc i) =
    elim (stop-cases t x i) [
      | inl here ↦ subst (λ (k : ℕ). IsAbove t k x) (sym (stop-here t x i here))
          (above-on t x i (parent t i) (subst (λ (k : ℕ). IsAbove t k x) here (stop-above t x i)) (above-parent t i))
      | inr past ↦ subst (λ (k : ℕ). IsAbove t k x) (sym (stop-past t x i past)) (stop-above t x i)
    ]

-- `stop` is i or greater, or a root
pub stop-high : (t : ParentTree) → Rises t → (x i : ℕ) → (i ≤ stop t x i) ⊎ (parent t (stop t x i) ≡ stop t x i)
stop-high t rises x zero = inl (omega arith)
stop-high t rises x (suc i) =
    elim (stop-cases t x i) [
      | inl here ↦ (let e : stop t x (suc i) ≡ parent t i = stop-here t x i here in
          elim (eqb_tells (parent t i) i) [
            | inl root ↦ inr (rw (e, root.1) root.1)
            | inr up ↦ inl (let le = rises i in let ne : parent t i ≢ i = up.1 in omega arith)
          ])
      | inr past ↦ (let e : stop t x (suc i) ≡ stop t x i = stop-past t x i past in
          elim (stop-high t rises x i) [
            | inl high ↦ inl (omega arith)
            | inr root ↦ inr (ap (parent t) e ∙ root ∙ sym e)
          ])
    ]

-- what is above x and i or greater is above `stop`
pub stop-keeps : (t : ParentTree) (x j i : ℕ) → IsAbove t j x → i ≤ j → IsAbove t j (stop t x i)
stop-keeps t x j zero a le = a
stop-keeps t x j (suc i) a le =
    let before : IsAbove t j (stop t x i) = stop-keeps t x j i a (omega arith) in
    elim (stop-cases t x i) [
      | inl here ↦ subst (λ (k : ℕ). IsAbove t j k) (sym (stop-here t x i here))
          (elim (above-cases t i j (subst (λ (k : ℕ). IsAbove t j k) here before)) [
            | inl same ↦ absurd (omega arith)
            | inr up ↦ up
          ])
      | inr past ↦ subst (λ (k : ℕ). IsAbove t j k) (sym (stop-past t x i past)) before
    ]

-- `stop` decides which nodes are above
pub stop-decides : (t : ParentTree) → Rises t → (x i : ℕ) → IsAbove t i x ↔ (stop t x i ≡ i)
stop-decides t rises x i = (down, λ e. subst (λ (k : ℕ). IsAbove t k x) e (stop-above t x i))
  where
    down : IsAbove t i x → stop t x i ≡ i
    down a =
        let kept : IsAbove t i (stop t x i) = stop-keeps t x i i a (omega arith) in
        elim (stop-high t rises x i) [
          | inl high ↦ (let low : stop t x i ≤ i = above-le t rises (stop t x i) i kept in omega arith)
          | inr root ↦ sym (above-root t (stop t x i) i root kept)
        ]

-- below x, `stop` is x
pub stop-low : (t : ParentTree) (x i : ℕ) → i ≤ x → stop t x i ≡ x
stop-low t x zero le = refl
stop-low t x (suc i) le =
    let before : stop t x i ≡ x = stop-low t x i (omega arith) in
    stop-past t x i (λ e. let same : i ≡ x = sym e ∙ before in omega arith) ∙ before

-- the links of a well-formed tree rise, also from what is no node
pub well_formed-rises : (t : ParentTree) → IsWellFormed t → Rises t
well_formed-rises t f i =
    elim (cases_order i (nodes t)) [
      | inl level ↦ beyond t i (omega arith)
      | inr other ↦ elim other [ inl low ↦ f.rises i low | inr high ↦ beyond t i (omega arith) ]
    ]
  where
    beyond : (u : ParentTree) (k : ℕ) → nodes u ≤ k → k ≤ parent u k
    beyond u k h = let none' : parent u k ≡ k = ap (λ o. unwrap_or o k) (slice_get_past u.parents k h) in omega arith

-- what is above a node of a well-formed tree is a node
pub well_formed-above : (t : ParentTree) → IsWellFormed t → (x z : ℕ) → x < nodes t → IsAbove t z x → z < nodes t
well_formed-above t f x z lt a = subst (λ (k : ℕ). k < nodes t) a.1 (climb a.0)
  where
    climb : (d : ℕ) → ancestor t d x < nodes t
    climb zero = lt
    climb (suc d) = f.within (ancestor t d x) (climb d)

-- each node has a root
pub well_formed-root : (t : ParentTree) → IsWellFormed t → (x : ℕ) → x < nodes t → (r : ℕ) × IsRootOf t x r
well_formed-root t f x lt = (
  stop t x (nodes t),
  record {
    above = stop-above t x (nodes t);
    root = elim (stop-high t (well_formed-rises t f) x (nodes t)) [
      | inl high ↦ absurd (let low : stop t x (nodes t) < nodes t = well_formed-above t f x (stop t x (nodes t)) lt (stop-above t x (nodes t)) in omega arith)
      | inr root ↦ root
    ];
  },
)

-- two nodes with a node above both share a root
pub common-shares : (t : ParentTree) → IsWellFormed t → (a b j : ℕ) → a < nodes t → IsCommon t a b j → ShareRoot t a b
common-shares t f a b j lt c =
    let r = well_formed-root t f j (well_formed-above t f a j lt c.0) in
    (r.0, (record { above = above-on t a j r.0 c.0 r.1.above; root = r.1.root }, record { above = above-on t b j r.0 c.1 r.1.above; root = r.1.root }))

-- what is common tells whether a root is shared
pub shares-told : (t : ParentTree) → IsWellFormed t → (a b : ℕ) → a < nodes t → (o : Option ℕ) → MatchOption o ((j : ℕ) → IsCommon t a b j → ⊥) (λ i. IsLowestAbove t a b i) →
    MatchOption o (ShareRoot t a b → ⊥) (λ _. ShareRoot t a b)
shares-told t f a b lt None h = λ s. h s.0 (s.1.0.above, s.1.1.above)
shares-told t f a b lt (Some i) h = common-shares t f a b i lt (h.first, h.second)
