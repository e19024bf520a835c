-- What comes next on the chain of a vertex from a rank on.
use Rattle.std.proofs.Common.{◌≡◌, ℕ, zero, suc, ◌+◌, ◌-◌, ◌<◌, ◌≤◌, Bool, true, false, cond, inl, inr, refl, sym, ◌∙◌, subst, ap, arith, [], ◌∷◌}
use Rattle.std.specs.Prelude.{◌&&◌, filter, nat_le, Option, Some, None}
use Rattle.std.proofs.lemmas.List.Elements.{filter_agree}
use Rattle.std.proofs.lemmas.Bool.{cases_Bool, leb-true, leb-false, le-leb, true≢false}
use Rattle.edge_laws.specs.Edges.{ListedEdge, EdgeList, AreApart, joined, below, link, is_joining, touches, in_order, chain, first_edge, next}
use Rattle.hg_base.specs.Lists.{IsIn}
use Rattle.edge_laws.proofs.Link.{IsSame}
use Rattle.edge_laws.proofs.Walks.{IsSame-joined}
use Rattle.edge_laws.proofs.Members.{IsSameSet-in_order, IsRising, IsRising-filter, IsRising-in_order}
use Rattle.hg_base.proofs.Lists.{IsIn-filter, IsIn-kept}
use Rattle.edge_laws.proofs.Fronts.{apart-one, rank_found, joined-step_with, joined-step_without}
use Rattle.edge_laws.proofs.Leaving.{xor, leaves, joins_touching, link-same, link-elsewhere}

-- two filters, one after the other
filter-filter : (p q : ListedEdge → Bool) (s : EdgeList) → filter p (filter q s) ≡ filter (λ e. q e && p e) s
filter-filter p q [] = refl
filter-filter p q (e ∷ s) =
    (elim (q e) as (λ b. filter p (cond b (e ∷ filter q s) (filter q s)) ≡ cond (b && p e) (e ∷ filter (λ f. q f && p f) s) (filter (λ f. q f && p f) s)) [
      | true ↦ ap (λ (t : EdgeList). cond (p e) (e ∷ t) t) (filter-filter p q s)
      | false ↦ filter-filter p q s
    ])

-- the chain of x: the edges that leave x's component, in order
pub chain-leaves : (s : EdgeList) (x : ℕ) → chain s x ≡ filter (leaves s x) (in_order s)
chain-leaves s x =
    filter-filter (touches s x) (is_joining s) (in_order s)
    ∙ filter_agree (λ e. is_joining s e && touches s x e) (leaves s x) (λ e. joins_touching (joined (below s e.rank)) (IsSame-joined (below s e.rank)) x e.u e.v) (in_order s)

-- o is the edge of least rank, from rank k on, that is in s and passes the test; None where there is none
abbrev pub IsFirst : (ListedEdge → Bool) → EdgeList → ℕ → Option ListedEdge → Type 0
IsFirst p s k None = (f : ListedEdge) → IsIn f s → p f ≡ true → f.rank < k
IsFirst p s k (Some e) = (IsIn e s × ((p e ≡ true) × (k ≤ e.rank))) × ((f : ListedEdge) → IsIn f s → p f ≡ true → k ≤ f.rank → e.rank ≤ f.rank)

-- there is one first edge at most
pub IsFirst-one : (p : ListedEdge → Bool) (s : EdgeList) → AreApart s → (k : ℕ) (o q : Option ListedEdge) → IsFirst p s k o → IsFirst p s k q → o ≡ q
IsFirst-one p s h k None None a b = refl
IsFirst-one p s h k None (Some f) a b =
    absurd (let low : f.rank < k = a f b.0.0 b.0.1.0 in let high : k ≤ f.rank = b.0.1.1 in omega arith)
IsFirst-one p s h k (Some e) None a b =
    absurd (let low : e.rank < k = b e a.0.0 a.0.1.0 in let high : k ≤ e.rank = a.0.1.1 in omega arith)
IsFirst-one p s h k (Some e) (Some f) a b =
    ap Some (apart-one s h e f a.0.0 b.0.0
    (let up : e.rank ≤ f.rank = a.1 f b.0.0 b.0.1.0 b.0.1.1 in let down : f.rank ≤ e.rank = b.1 e a.0.0 a.0.1.0 a.0.1.1 in omega arith))

-- the first edge of a rising list is the least
first_edge-least : (t : EdgeList) → IsRising t → (e : ListedEdge) → first_edge t ≡ Some e → IsIn e t × ((f : ListedEdge) → IsIn f t → e.rank ≤ f.rank)
first_edge-least [] h e eq = absurd (cc)
first_edge-least (g ∷ t) h e eq =
    let same : g ≡ e = cc in (
      inl same,
      λ f i. elim i as (λ _. e.rank ≤ f.rank) [
        | inl here ↦ (let r : e ≡ f = sym same ∙ here in let q : e.rank ≡ f.rank = ap (λ (x : ListedEdge). x.rank) r in omega arith)
        | inr later ↦ (let q : g.rank < f.rank = h.0 f later in let r : g.rank ≡ e.rank = ap (λ (x : ListedEdge). x.rank) same in omega arith)
      ],
    )

-- a list with no first edge is empty
first_edge-none : (t : EdgeList) → first_edge t ≡ None → (f : ListedEdge) → IsIn f t → ⊥
first_edge-none [] eq f i = i
first_edge-none (g ∷ t) eq f i = cc

-- an edge that leaves x's component is on its chain
pub IsIn-leaving : (s : EdgeList) (x : ℕ) (f : ListedEdge) → IsIn f s → leaves s x f ≡ true → IsIn f (chain s x)
IsIn-leaving s x f i t =
    subst (λ (c : EdgeList). IsIn f c) (sym (chain-leaves s x)) (IsIn-filter (leaves s x) f (in_order s) t ((IsSameSet-in_order s).on f i))

pub IsIn-leaving_kept : (s : EdgeList) (x : ℕ) (f : ListedEdge) → IsIn f (chain s x) → IsIn f s × (leaves s x f ≡ true)
IsIn-leaving_kept s x f i =
    let p = IsIn-kept (leaves s x) f (in_order s) (subst (λ (c : EdgeList). IsIn f c) (chain-leaves s x) i) in
    ((IsSameSet-in_order s).back f p.1, p.0)

IsRising-leaving : (s : EdgeList) → AreApart s → (x : ℕ) → IsRising (chain s x)
IsRising-leaving s h x =
    subst IsRising (sym (chain-leaves s x)) (IsRising-filter (leaves s x) (in_order s) (IsRising-in_order s h))

-- `next` is the first edge that leaves x's component
pub next-first : (s : EdgeList) → AreApart s → (x k : ℕ) → IsFirst (leaves s x) s k (next s x k)
next-first s h x k = go (next s x k) refl
  where
    go : (o : Option ListedEdge) → next s x k ≡ o → IsFirst (leaves s x) s k o
    go None eq = λ f i t.
        elim (cases_Bool (nat_le k f.rank)) [
          | inl yes' ↦ absurd (first_edge-none (filter (λ (e : ListedEdge). nat_le k e.rank) (chain s x)) eq f
              (IsIn-filter (λ (e : ListedEdge). nat_le k e.rank) f (chain s x) yes' (IsIn-leaving s x f i t)))
          | inr no' ↦ leb-false k f.rank no'
        ]
    go (Some e) eq =
        let least = first_edge-least (filter (λ (f : ListedEdge). nat_le k f.rank) (chain s x))
        (IsRising-filter (λ (f : ListedEdge). nat_le k f.rank) (chain s x) (IsRising-leaving s h x)) e eq in
        let p = IsIn-kept (λ (f : ListedEdge). nat_le k f.rank) e (chain s x) least.0 in
        let q = IsIn-leaving_kept s x e p.1 in (
          (q.0, (q.1, leb-true k e.rank p.0)),
          λ f i t up. least.1 f (IsIn-filter (λ (g : ListedEdge). nat_le k g.rank) f (chain s x) (le-leb k f.rank up) (IsIn-leaving s x f i t)),
        )

xor-false_true : (p q : Bool) → xor p q ≡ false → p ≡ true → q ≡ true
xor-false_true true true h e = refl
xor-false_true true false h e = absurd (true≢false h)
xor-false_true false q h e = absurd (true≢false (sym e))

xor-false_false : (p q : Bool) → xor p q ≡ false → p ≡ false → q ≡ false
xor-false_false true q h e = absurd (true≢false e)
xor-false_false false q h e = h

-- an edge that doesn't leave x's component leaves it as it is
row-kept : (r : ℕ → ℕ → Bool) → IsSame r → (x y u v : ℕ) → xor (r x u) (r x v) ≡ false → link r u v x y ≡ r x y
row-kept r same x y u v h =
    elim (cases_Bool (r x u)) [
      | inl p ↦ (let q : r x v ≡ true = xor-false_true (r x u) (r x v) h p in
          link-same r same u v x y (same.on u x v (same.back x u p) q))
      | inr p ↦ link-elsewhere r u v x y p (xor-false_false (r x u) (r x v) h p)
    ]

-- who is joined to x stays as it is while no edge leaves x's component: n more ranks from k on
stays_for : (s : EdgeList) → AreApart s → (n k x y : ℕ) →
    ((f : ListedEdge) → IsIn f s → k ≤ f.rank → f.rank < k + n → leaves s x f ≡ false) →
    joined (below s (k + n)) x y ≡ joined (below s k) x y
stays_for s h zero k x y quiet = ap (λ (j : ℕ). joined (below s j) x y) (omega arith)
stays_for s h (suc n) k x y quiet =
    let j : ℕ = k + n in
    let next_rank : k + suc n ≡ suc (k + n) = omega arith in
    ap (λ (i : ℕ). joined (below s i) x y) next_rank
    ∙ one_more
    ∙ stays_for s h n k x y (λ f i low up. quiet f i low (omega arith))
  where
    one_more : joined (below s (suc (k + n))) x y ≡ joined (below s (k + n)) x y
    one_more =
        elim (rank_found s (k + n)) [
          | inl found ↦ subst (λ (j : ℕ). joined (below s (suc j)) x y ≡ joined (below s j) x y) found.1.1
              (joined-step_with s h found.0 found.1.0 x y
              ∙ row-kept (joined (below s found.0.rank)) (IsSame-joined (below s found.0.rank)) x y found.0.u found.0.v
              (quiet found.0 found.1.0 (let r : found.0.rank ≡ k + n = found.1.1 in omega arith) (let r : found.0.rank ≡ k + n = found.1.1 in omega arith)))
          | inr never ↦ joined-step_without s (k + n) never x y
        ]

-- who is joined to x stays as it is while no edge leaves x's component
pub component-stays : (s : EdgeList) → AreApart s → (k j x y : ℕ) → k ≤ j →
    ((f : ListedEdge) → IsIn f s → k ≤ f.rank → f.rank < j → leaves s x f ≡ false) →
    joined (below s j) x y ≡ joined (below s k) x y
component-stays s h k j x y up quiet =
    let split : k + (j - k) ≡ j = omega arith in
    subst (λ (i : ℕ). joined (below s i) x y ≡ joined (below s k) x y) split
    (stays_for s h (j - k) k x y (λ f i low top. quiet f i low (omega arith)))
