-- What comes next after one more edge, told by its two ends in either order.
use Rattle.std.proofs.Common.{◌≡◌, ℕ, suc, ◌<◌, ◌≤◌, Bool, true, false, inl, inr, refl, sym, ◌∙◌, subst, ap, arith, ◌∷◌, add-one}
use Rattle.std.specs.Prelude.{◌||◌, Option, Some, None}
use Rattle.std.proofs.lemmas.Bool.{cases_order, false_from_ne_true, le-ltb, lt-ltb, or_left, or_right, or_cases, and_from, true≢false}
use Rattle.edge_laws.specs.Edges.{ListedEdge, EdgeList, AreEnds, AreApart, joined, below, joins, touches, chain, next, merged}
use Rattle.hg_base.specs.Lists.{IsIn}
use Rattle.edge_laws.specs.Splice.{IsRedundant}
use Rattle.edge_laws.proofs.Link.{link_cases}
use Rattle.edge_laws.proofs.Walks.{IsSame-joined}
use Rattle.edge_laws.proofs.Members.{IsIn-below, IsIn-below_kept}
use Rattle.edge_laws.proofs.Sets.{joined-among, joined_below-more, IsIn-joins_kept, IsIn-chain, IsIn-chain_kept}
use Rattle.edge_laws.proofs.Fronts.{joined-step_with, joined-step_without}
use Rattle.edge_laws.proofs.Leaving.{leaves, joins_touching}
use Rattle.edge_laws.proofs.Next.{IsFirst, IsFirst-one, next-first, component-stays}
use Rattle.edge_laws.proofs.Firsts.{IsUpTo, IsBefore, IsBefore-below, first-quiet, first-higher}
use Rattle.edge_laws.proofs.Splice.{next-elsewhere, next-before, next-at, next-past}
use Rattle.edge_laws.proofs.Merged.{Merging, next-merged}
use Rattle.edge_laws.proofs.Drops.{joins-kept, not-Joined, holds}

-- a rank up to one that is before the edge is before it
pub IsBefore-to : (o : Option ListedEdge) (m n : ℕ) → m ≤ n → IsBefore o n → IsBefore o m
IsBefore-to None m n le before = tt
IsBefore-to (Some g) m n le before = omega arith

pub IsUpTo-after : (o : Option ListedEdge) (n : ℕ) → IsBefore o n → IsUpTo o (suc n)
IsUpTo-after None n before = tt
IsUpTo-after (Some g) n before = omega arith

-- what comes next from a later rank on, up to what comes next
pub next-later : (s : EdgeList) → AreApart s → (x k j : ℕ) → k ≤ j → IsUpTo (next s x k) j → next s x j ≡ next s x k
next-later s h x k j up to =
    IsFirst-one (leaves s x) s h j _ _ (next-first s h x j) (first-higher (leaves s x) s k j (next s x k) up to (next-first s h x k))

-- what comes next is of the list, leads out and has that rank or more
pub next-is : (s : EdgeList) → AreApart s → (x k : ℕ) (f : ListedEdge) → next s x k ≡ Some f → IsIn f s × ((leaves s x f ≡ true) × (k ≤ f.rank))
next-is s h x k f eq = (subst (λ (o : Option ListedEdge). IsFirst (leaves s x) s k o) eq (next-first s h x k)).0

-- no edge that leads out comes between
pub next-quiet : (s : EdgeList) → AreApart s → (x k : ℕ) (g : ListedEdge) → IsIn g s → k ≤ g.rank → IsBefore (next s x k) g.rank → leaves s x g ≡ true → ⊥
next-quiet s h x k g i up before out =
    true≢false (sym out ∙ first-quiet (leaves s x) s k (next s x k) (next-first s h x k) g i up before)

-- an edge that leads out from rank k on: something comes next, of no higher rank
pub next-some : (s : EdgeList) → AreApart s → (x k : ℕ) (g : ListedEdge) → IsIn g s → k ≤ g.rank → leaves s x g ≡ true →
    (f : ListedEdge) × ((next s x k ≡ Some f) × (f.rank ≤ g.rank))
next-some s h x k g i up out = go (next s x k) refl
  where
    go : (o : Option ListedEdge) → next s x k ≡ o → (f : ListedEdge) × ((next s x k ≡ Some f) × (f.rank ≤ g.rank))
    go None eq = absurd (next-quiet s h x k g i up (subst (λ (q : Option ListedEdge). IsBefore q g.rank) (sym eq) tt) out)
    go (Some f) eq = (f, (eq, (subst (λ (o : Option ListedEdge). IsFirst (leaves s x) s k o) eq (next-first s h x k)).1 g i out up))

-- who is joined to x stays so up to what comes next
pub stays-before : (s : EdgeList) → AreApart s → (x k j y : ℕ) → k ≤ j → IsUpTo (next s x k) j → joined (below s j) x y ≡ joined (below s k) x y
stays-before s h x k j y up to =
    component-stays s h k j x y up
    (λ g i low top. first-quiet (leaves s x) s k (next s x k) (next-first s h x k) g i low (IsBefore-below (next s x k) g.rank j top to))

-- a joining edge to which x is joined once the edge is there leads out of x's component
pub reached-leaves : (s : EdgeList) → AreApart s → (g : ListedEdge) → IsIn g (joins s) → (x : ℕ) → joined (below s (suc g.rank)) x g.u ≡ true → leaves s x g ≡ true
reached-leaves s h g i x j =
    let p = IsIn-joins_kept s g i in
    let touch : touches s x g ≡ true = (elim (link_cases (joined (below s g.rank)) g.u g.v x g.u (sym (joined-step_with s h g p.0 x g.u) ∙ j)) [
      | inl old ↦ or_left _ _ old
      | inr over ↦ elim over [ inl q ↦ or_left _ _ q.0 | inr q ↦ or_right _ _ q.0 ]
    ]) in
    sym (joins_touching (joined (below s g.rank)) (IsSame-joined (below s g.rank)) x g.u g.v) ∙ and_from _ _ p.1 touch

pub apart-back : (s : EdgeList) (x y : ℕ) → joined s x y ≡ false → joined s y x ≡ false
apart-back s x y h = false_from_ne_true (joined s y x) (λ k. true≢false (sym ((IsSame-joined s).back y x k) ∙ h))

-- the ends of e in either order
pub ends-apart : (e : ListedEdge) (a b : ℕ) → AreEnds e a b → (s : EdgeList) → joined s a b ≡ false → joined s e.u e.v ≡ false
ends-apart e a b (inl p) s h = ap (λ (y : ℕ). joined s y e.v) p.0 ∙ ap (λ (y : ℕ). joined s a y) p.1 ∙ h
ends-apart e a b (inr p) s h = ap (λ (y : ℕ). joined s y e.v) p.1 ∙ ap (λ (y : ℕ). joined s b y) p.0 ∙ apart-back s a b h

pub ends-joined : (e : ListedEdge) (a b : ℕ) → AreEnds e a b → (s : EdgeList) → joined s a b ≡ true → joined s e.u e.v ≡ true
ends-joined e a b (inl p) s h = ap (λ (y : ℕ). joined s y e.v) p.0 ∙ ap (λ (y : ℕ). joined s a y) p.1 ∙ h
ends-joined e a b (inr p) s h = ap (λ (y : ℕ). joined s y e.v) p.1 ∙ ap (λ (y : ℕ). joined s b y) p.0 ∙ (IsSame-joined s).back a b h

-- a rank above e's by which its ends a and b aren't joined, and a vertex x
pub record Apart (e : ListedEdge) (s : EdgeList) (a b k : ℕ) : Type 0 where
  pub apart : AreApart (e ∷ s)
  pub ends : AreEnds e a b
  pub above : e.rank < k
  pub unjoined : joined (below s k) a b ≡ false

-- then e isn't redundant
pub needed : (e : ListedEdge) (s : EdgeList) (a b k : ℕ) → Apart e s a b k → IsRedundant e s → ⊥
needed e s a b k m r =
    let above : e.rank < k = m.above in
    true≢false (sym (joined_below-more s e.rank k e.u e.v (omega arith) (holds (below s e.rank) e.u e.v r)) ∙ ends-apart e a b m.ends (below s k) m.unjoined)

-- and an edge that joined by then still joins
pub joins-stays : (e : ListedEdge) (s : EdgeList) (a b : ℕ) (f : ListedEdge) → Apart e s a b (suc f.rank) → IsIn f (joins s) → IsIn f (joins (e ∷ s))
joins-stays e s a b f m i =
    (joins-kept e s m.apart (needed e s a b (suc f.rank) m) f (IsIn-joins_kept s f i).0).1
    (i, λ first. not-Joined (below s (suc f.rank)) e.u e.v (ends-apart e a b m.ends (below s (suc f.rank)) m.unjoined) (first.behind (suc f.rank) (omega arith)))

pub or-turned : (p q : Bool) → (p || q) ≡ true → (q || p) ≡ true
or-turned true true h = refl
or-turned true false h = refl
or-turned false true h = refl
or-turned false false h = h

merging-ends : (e : ListedEdge) (s : EdgeList) (a b k : ℕ) → AreEnds e a b → Apart e s a b k → (x : ℕ) → (joined (below s k) x a || joined (below s k) x b) ≡ true → Merging e s x k
merging-ends e s a b k (inl p) m x at_end = record {
  apart = m.apart;
  above = m.above;
  unjoined = ends-apart e a b m.ends (below s k) m.unjoined;
  at_end = rw (p.0, p.1) at_end;
}
merging-ends e s a b k (inr p) m x at_end = record {
  apart = m.apart;
  above = m.above;
  unjoined = ends-apart e a b m.ends (below s k) m.unjoined;
  at_end = rw (p.0, p.1) (or-turned (joined (below s k) x a) (joined (below s k) x b) at_end);
}

-- a vertex at neither end
pub next-neither : (e : ListedEdge) (s : EdgeList) (a b k : ℕ) → Apart e s a b k → (x : ℕ) → joined (below s k) x a ≡ false → joined (below s k) x b ≡ false →
    next (e ∷ s) x k ≡ next s x k
next-neither e s a b k m x na nb = go m.ends
  where
    go : AreEnds e a b → next (e ∷ s) x k ≡ next s x k
    go (inl p) = next-elsewhere e s m.apart x k m.above (ap (λ (y : ℕ). joined (below s k) x y) p.0 ∙ na) (ap (λ (y : ℕ). joined (below s k) x y) p.1 ∙ nb)
    go (inr p) = next-elsewhere e s m.apart x k m.above (ap (λ (y : ℕ). joined (below s k) x y) p.1 ∙ nb) (ap (λ (y : ℕ). joined (below s k) x y) p.0 ∙ na)

merged-lower : (s : EdgeList) (f : ListedEdge) (q : Option ListedEdge) → IsBefore q f.rank → merged s (Some f) q ≡ Some f
merged-lower s f None before = refl
merged-lower s f (Some g) before = rw (lt-ltb f.rank g.rank before) refl

merged-higher : (s : EdgeList) (f : ListedEdge) (q : Option ListedEdge) → IsBefore q f.rank → merged s q (Some f) ≡ Some f
merged-higher s f None before = refl
merged-higher s f (Some g) before = rw (le-ltb g.rank f.rank (omega arith), lt-ltb f.rank g.rank before) refl

merged-alone : (s : EdgeList) (q : Option ListedEdge) → merged s q None ≡ q
merged-alone s None = refl
merged-alone s (Some f) = refl

merged-same : (s : EdgeList) (z : ListedEdge) → merged s (Some z) (Some z) ≡ next s z.u (suc z.rank)
merged-same s z = rw (le-ltb z.rank z.rank (omega arith), add-one) refl

-- at an end the edge of lower rank comes next
pub next-lower : (e : ListedEdge) (s : EdgeList) (a b k : ℕ) → Apart e s a b k → (x : ℕ) → (joined (below s k) x a || joined (below s k) x b) ≡ true →
    (f : ListedEdge) → next s a k ≡ Some f → IsBefore (next s b k) f.rank → next (e ∷ s) x k ≡ Some f
next-lower e s a b k m x at_end f first second = go m.ends
  where
    go : AreEnds e a b → next (e ∷ s) x k ≡ Some f
    go (inl p) = next-merged e s x k (merging-ends e s a b k (inl p) m x at_end) ∙ rw (p.0, p.1, first) (merged-lower s f (next s b k) second)
    go (inr p) = next-merged e s x k (merging-ends e s a b k (inr p) m x at_end) ∙ rw (p.0, p.1, first) (merged-higher s f (next s b k) second)

-- where nothing comes next for one end, what comes next for the other does
pub next-single : (e : ListedEdge) (s : EdgeList) (a b k : ℕ) → Apart e s a b k → (x : ℕ) → (joined (below s k) x a || joined (below s k) x b) ≡ true →
    next s b k ≡ None → next (e ∷ s) x k ≡ next s a k
next-single e s a b k m x at_end second = go m.ends
  where
    go : AreEnds e a b → next (e ∷ s) x k ≡ next s a k
    go (inl p) = next-merged e s x k (merging-ends e s a b k (inl p) m x at_end) ∙ rw (p.0, p.1, second) (merged-alone s (next s a k))
    go (inr p) = next-merged e s x k (merging-ends e s a b k (inr p) m x at_end) ∙ rw (p.0, p.1, second) refl

-- where one edge comes next for both, what comes behind it does
pub next-both : (e : ListedEdge) (s : EdgeList) (a b k : ℕ) → Apart e s a b k → (x : ℕ) → (joined (below s k) x a || joined (below s k) x b) ≡ true →
    (z : ListedEdge) → next s a k ≡ Some z → next s b k ≡ Some z → next (e ∷ s) x k ≡ next s z.u (suc z.rank)
next-both e s a b k m x at_end z first second = go m.ends
  where
    go : AreEnds e a b → next (e ∷ s) x k ≡ next s z.u (suc z.rank)
    go (inl p) = next-merged e s x k (merging-ends e s a b k (inl p) m x at_end) ∙ rw (p.0, p.1, first, second) (merged-same s z)
    go (inr p) = next-merged e s x k (merging-ends e s a b k (inr p) m x at_end) ∙ rw (p.0, p.1, first, second) (merged-same s z)

-- What leads out of a component still does after one more edge, where it still joins.
pub chain-kept : (e : ListedEdge) (s : EdgeList) (x : ℕ) (g : ListedEdge) → IsIn g (chain s x) → IsIn g (joins (e ∷ s)) → IsIn g (chain (e ∷ s) x)
chain-kept e s x g i k =
    let c = IsIn-chain_kept s x g i in
    let j = IsIn-joins_kept (e ∷ s) g k in
    IsIn-chain (e ∷ s) x g (record {
      member = j.0;
      joining = j.1;
      touching = (elim (or_cases _ _ c.touching) [
        | inl one ↦ or_left _ _ (joined-among (below s g.rank) (below (e ∷ s) g.rank) x g.u more one)
        | inr other ↦ or_right _ _ (joined-among (below s g.rank) (below (e ∷ s) g.rank) x g.v more other)
      ]);
    })
  where
    more : (f : ListedEdge) → IsIn f (below s g.rank) → IsIn f (below (e ∷ s) g.rank)
    more f m = let p = IsIn-below_kept f s g.rank m in IsIn-below f (e ∷ s) g.rank (inr p.0) p.1

-- e comes next where it leads out and nothing came before it
pub next-opens : (e : ListedEdge) (s : EdgeList) → AreApart (e ∷ s) → (x k : ℕ) → k ≤ e.rank → IsBefore (next s x k) e.rank → leaves s x e ≡ true → next (e ∷ s) x k ≡ Some e
next-opens e s h x k up before out = next-at e s h x k up before out

-- it changes nothing for a vertex that is joined to neither end by edges of lower rank
pub next-passes : (e : ListedEdge) (s : EdgeList) → AreApart (e ∷ s) → (x k : ℕ) → k ≤ e.rank → joined (below s e.rank) x e.u ≡ false → joined (below s e.rank) x e.v ≡ false →
    next (e ∷ s) x k ≡ next s x k
next-passes e s h x k up nu nv = go (next s x k) refl
  where
    after : IsBefore (next s x k) e.rank → next (e ∷ s) x k ≡ next s x k
    after before =
        let step : (y : ℕ) → joined (below s (suc e.rank)) x y ≡ joined (below s e.rank) x y = λ y. joined-step_without s e.rank (λ f i r. h.0 f i (sym r)) x y in
        next-past e s h x k up before (rw (nu, nv) refl)
        ∙ next-elsewhere e s h x (suc e.rank) (omega arith) (step e.u ∙ nu) (step e.v ∙ nv)
        ∙ next-later s h.1 x k (suc e.rank) (omega arith) (IsUpTo-after (next s x k) e.rank before)

    go : (o : Option ListedEdge) → next s x k ≡ o → next (e ∷ s) x k ≡ next s x k
    go None eq = after (subst (λ (q : Option ListedEdge). IsBefore q e.rank) (sym eq) tt)
    go (Some f) eq =
        elim (cases_order f.rank e.rank) [
          | inl level ↦ absurd (h.0 f (next-is s h.1 x k f eq).0 (sym level))
          | inr other ↦ elim other [
            | inl less ↦ next-before e s h x k f eq less ∙ sym eq
            | inr high ↦ after (subst (λ (q : Option ListedEdge). IsBefore q e.rank) (sym eq) high)
          ]
        ]
