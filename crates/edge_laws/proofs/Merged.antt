-- The splice above the new edge: two chains merged into one.
use Rattle.std.proofs.Common.{◌≡◌, ℕ, suc, ◌<◌, ◌≤◌, Bool, true, false, inl, inr, refl, sym, ◌∙◌, subst, ap, arith, ◌∷◌, add-one}
use Rattle.std.specs.Prelude.{◌||◌, Option, Some, None}
use Rattle.std.proofs.lemmas.Bool.{cases_Bool, cases_order, le-ltb, lt-ltb, or_left, or_right, or_cases, true≢false}
use Rattle.edge_laws.specs.Edges.{ListedEdge, EdgeList, AreApart, joined, below, link, next, merged}
use Rattle.hg_base.specs.Lists.{IsIn}
use Rattle.edge_laws.proofs.Link.{IsSame, link-over, link-back}
use Rattle.edge_laws.proofs.Walks.{IsSame-joined, joined-ends}
use Rattle.edge_laws.proofs.Sets.{joined_below-more}
use Rattle.edge_laws.proofs.Members.{IsIn-below}
use Rattle.edge_laws.proofs.Fronts.{apart-one, joined-step_with}
use Rattle.edge_laws.proofs.Leaving.{xor, leaves, row-same, xor_cases}
use Rattle.edge_laws.proofs.Next.{IsFirst, IsFirst-one, next-first, component-stays}
use Rattle.edge_laws.proofs.Firsts.{IsUpTo, IsBefore, IsBefore-sooner, first-quiet, first-agree, first-more, first-lower}
use Rattle.edge_laws.proofs.Splice.{leaves-apart, next-joined}

-- e, its list and a rank k above e's by which e's ends aren't joined yet, and x is joined to one of them
pub record Merging (e : ListedEdge) (s : EdgeList) (x k : ℕ) : Type 0 where
  pub apart : AreApart (e ∷ s)
  pub above : e.rank < k
  pub unjoined : joined (below s k) e.u e.v ≡ false
  pub at_end : (joined (below s k) x e.u || joined (below s k) x e.v) ≡ true

-- nothing leaves the components of e's ends from k up to rank j
abbrev pub IsQuiet : ListedEdge → EdgeList → ℕ → ℕ → Type 0
IsQuiet e s k j = (g : ListedEdge) → IsIn g s → k ≤ g.rank → g.rank < j → (leaves s e.u g ≡ false) × (leaves s e.v g ≡ false)

-- the ends stay apart while nothing leaves their components
pub still_apart : (e : ListedEdge) (s : EdgeList) (x k : ℕ) → Merging e s x k → (j : ℕ) → k ≤ j → IsQuiet e s k j → joined (below s j) e.u e.v ≡ false
still_apart e s x k m j up quiet =
    component-stays s m.apart.1 k j e.u e.v up (λ g i low top. (quiet g i low top).0) ∙ m.unjoined

-- x stays joined to an end
still_at_end : (e : ListedEdge) (s : EdgeList) (x k : ℕ) → Merging e s x k → (j : ℕ) → k ≤ j → (joined (below s j) x e.u || joined (below s j) x e.v) ≡ true
still_at_end e s x k m j up =
    elim (or_cases _ _ m.at_end) [
      | inl first ↦ or_left _ _ (joined_below-more s k j x e.u up first)
      | inr second ↦ or_right _ _ (joined_below-more s k j x e.v up second)
    ]

-- what leaves the component of x then: what leaves that of one end
pub leaves-merged : (e : ListedEdge) (s : EdgeList) (x k : ℕ) → Merging e s x k → (f : ListedEdge) → k ≤ f.rank → IsQuiet e s k f.rank →
    leaves (e ∷ s) x f ≡ xor (leaves s e.u f) (leaves s e.v f)
leaves-merged e s x k m f up quiet =
    leaves-apart e s x f (let a : e.rank < k = m.above in omega arith) (still_apart e s x k m f.rank up quiet)
    ∙ rw (still_at_end e s x k m f.rank up) refl

-- the first edge of x's component is the first that leaves that of one end, where it isn't the first of both
merged-first : (e : ListedEdge) (s : EdgeList) (x k : ℕ) → Merging e s x k → (o : Option ListedEdge) →
    ((j : ℕ) → IsUpTo o j → IsQuiet e s k j) → IsFirst (λ f. xor (leaves s e.u f) (leaves s e.v f)) s k o → next (e ∷ s) x k ≡ o
merged-first e s x k m o quiet h =
    IsFirst-one (leaves (e ∷ s) x) (e ∷ s) m.apart k _ _ (next-first (e ∷ s) m.apart x k)
    (first-more (leaves (e ∷ s) x) e s k o m.above
    (first-agree (λ f. xor (leaves s e.u f) (leaves s e.v f)) (leaves (e ∷ s) x) s k o
    (λ f i up to. leaves-merged e s x k m f up (quiet f.rank to)) h))

xor-none : (p q : Bool) → p ≡ false → q ≡ false → xor p q ≡ true → ⊥
xor-none p q hp hq h = elim (xor_cases p q h) [ inl one ↦ true≢false (sym one.0 ∙ hp) | inr one ↦ true≢false (sym one.1 ∙ hq) ]

-- nothing leaves either component any more
merged-none : (e : ListedEdge) (s : EdgeList) (x k : ℕ) → Merging e s x k →
    IsFirst (leaves s e.u) s k None → IsFirst (leaves s e.v) s k None → next (e ∷ s) x k ≡ None
merged-none e s x k m hu hv =
    merged-first e s x k m None
    (λ j to g i low top. (first-quiet (leaves s e.u) s k None hu g i low tt, first-quiet (leaves s e.v) s k None hv g i low tt))
    (λ f i t. elim (cases_Bool (leaves s e.u f)) [
      | inl one ↦ hu f i one
      | inr other ↦ elim (cases_Bool (leaves s e.v f))
          [ inl one ↦ hv f i one | inr neither ↦ absurd (xor-none _ _ other neither t) ]
    ])

-- f is the first to leave the first end's component, and comes before all that leaves the other's
merged-left : (e : ListedEdge) (s : EdgeList) (x k : ℕ) → Merging e s x k → (f : ListedEdge) (q : Option ListedEdge) →
    IsFirst (leaves s e.u) s k (Some f) → IsFirst (leaves s e.v) s k q → IsBefore q f.rank → next (e ∷ s) x k ≡ Some f
merged-left e s x k m f q hu hv before =
    merged-first e s x k m (Some f)
    (λ j to g i low top. (
      first-quiet (leaves s e.u) s k (Some f) hu g i low (omega arith),
      first-quiet (leaves s e.v) s k q hv g i low (IsBefore-sooner q g.rank f.rank (omega arith) before),
    )) (
      (hu.0.0, (rw (hu.0.1.0, first-quiet (leaves s e.v) s k q hv f hu.0.0 hu.0.1.1 before) refl, hu.0.1.1)),
      λ g i t up. elim (cases_order g.rank f.rank) [
        | inl level ↦ omega arith
        | inr other ↦ elim other [
          | inl low ↦ absurd (xor-none _ _
              (first-quiet (leaves s e.u) s k (Some f) hu g i up low)
              (first-quiet (leaves s e.v) s k q hv g i up (IsBefore-sooner q g.rank f.rank low before)) t)
          | inr high ↦ omega arith
        ]
      ],
    )

-- the same where it leaves the second end's component
merged-right : (e : ListedEdge) (s : EdgeList) (x k : ℕ) → Merging e s x k → (f : ListedEdge) (o : Option ListedEdge) →
    IsFirst (leaves s e.u) s k o → IsFirst (leaves s e.v) s k (Some f) → IsBefore o f.rank → next (e ∷ s) x k ≡ Some f
merged-right e s x k m f o hu hv before =
    merged-first e s x k m (Some f)
    (λ j to g i low top. (
      first-quiet (leaves s e.u) s k o hu g i low (IsBefore-sooner o g.rank f.rank (omega arith) before),
      first-quiet (leaves s e.v) s k (Some f) hv g i low (omega arith),
    )) (
      (hv.0.0, (rw (hv.0.1.0, first-quiet (leaves s e.u) s k o hu f hv.0.0 hv.0.1.1 before) refl, hv.0.1.1)),
      λ g i t up. elim (cases_order g.rank f.rank) [
        | inl level ↦ omega arith
        | inr other ↦ elim other [
          | inl low ↦ absurd (xor-none _ _
              (first-quiet (leaves s e.u) s k o hu g i up (IsBefore-sooner o g.rank f.rank low before))
              (first-quiet (leaves s e.v) s k (Some f) hv g i up low) t)
          | inr high ↦ omega arith
        ]
      ],
    )

-- An edge that leaves two components joins them.
leaving_both-joins : (r : ℕ → ℕ → Bool) → IsSame r → (a b u v : ℕ) → r a b ≡ false → xor (r a u) (r a v) ≡ true → xor (r b u) (r b v) ≡ true → link r u v a b ≡ true
leaving_both-joins r same a b u v apart ha hb =
    elim (xor_cases (r a u) (r a v) ha) [
      | inl p ↦ elim (xor_cases (r b u) (r b v) hb) [
        | inl clash ↦ absurd (true≢false (sym (same.on a u b p.0 (same.back b u clash.0)) ∙ apart))
        | inr q ↦ link-over r u v a b p.0 (same.back b v q.1)
      ]
      | inr p ↦ elim (xor_cases (r b u) (r b v) hb) [
        | inl q ↦ link-back r u v a b p.1 (same.back b u q.0)
        | inr clash ↦ absurd (true≢false (sym (same.on a v b p.1 (same.back b v clash.1)) ∙ apart))
      ]
    ]

-- z is the first that leaves either component
record BothFirst (e : ListedEdge) (s : EdgeList) (k : ℕ) (z : ListedEdge) : Type 0 where
  of_u : IsFirst (leaves s e.u) s k (Some z)
  of_v : IsFirst (leaves s e.v) s k (Some z)

both-quiet : (e : ListedEdge) (s : EdgeList) (k : ℕ) (z : ListedEdge) → BothFirst e s k z → IsQuiet e s k z.rank
both-quiet e s k z b g i low top =
    (first-quiet (leaves s e.u) s k (Some z) b.of_u g i low top, first-quiet (leaves s e.v) s k (Some z) b.of_v g i low top)

-- behind z the ends of e are joined
joined-behind : (e : ListedEdge) (s : EdgeList) (x k : ℕ) → Merging e s x k → (z : ListedEdge) → BothFirst e s k z →
    joined (below s (suc z.rank)) e.u e.v ≡ true
joined-behind e s x k m z b =
    joined-step_with s m.apart.1 z b.of_u.0.0 e.u e.v
    ∙ leaving_both-joins (joined (below s z.rank)) (IsSame-joined (below s z.rank)) e.u e.v z.u z.v
    (still_apart e s x k m z.rank b.of_u.0.1.1 (both-quiet e s k z b)) b.of_u.0.1.0 b.of_v.0.1.0

-- behind an edge, who was joined to one of its ends is joined to its first
pub joined-to_end : (s : EdgeList) (z : ListedEdge) (y : ℕ) → IsIn z s → leaves s y z ≡ true → joined (below s (suc z.rank)) y z.u ≡ true
joined-to_end s z y i t =
    let same = IsSame-joined (below s (suc z.rank)) in
    elim (xor_cases (joined (below s z.rank) y z.u) (joined (below s z.rank) y z.v) t) [
      | inl p ↦ joined_below-more s z.rank (suc z.rank) y z.u (omega arith) p.0
      | inr p ↦ same.on y z.v z.u (joined_below-more s z.rank (suc z.rank) y z.v (omega arith) p.1)
          (same.back z.u z.v (joined-ends (below s (suc z.rank)) z (IsIn-below z s (suc z.rank) i (omega arith))))
    ]

-- behind z, x is joined to z's first end
joined-x_behind : (e : ListedEdge) (s : EdgeList) (x k : ℕ) → Merging e s x k → (z : ListedEdge) → BothFirst e s k z →
    joined (below s (suc z.rank)) x z.u ≡ true
joined-x_behind e s x k m z b =
    let j : ℕ = suc z.rank in
    let same = IsSame-joined (below s (suc z.rank)) in
    let up : k ≤ z.rank = b.of_u.0.1.1 in
    elim (or_cases _ _ m.at_end) [
      | inl first ↦ same.on x e.u z.u (joined_below-more s k (suc z.rank) x e.u (omega arith) first) (joined-to_end s z e.u b.of_u.0.0 b.of_u.0.1.0)
      | inr second ↦ same.on x e.v z.u (joined_below-more s k (suc z.rank) x e.v (omega arith) second) (joined-to_end s z e.v b.of_v.0.0 b.of_v.0.1.0)
    ]

-- vertices that are joined have the same next edge
pub next-row : (s : EdgeList) → AreApart s → (x y k : ℕ) → joined (below s k) x y ≡ true → next s x k ≡ next s y k
next-row s h x y k j =
    IsFirst-one (leaves s x) s h k _ _ (next-first s h x k)
    (first-agree (leaves s y) (leaves s x) s k (next s y k) (λ f i up to. agree f up) (next-first s h y k))
  where
    agree : (f : ListedEdge) → k ≤ f.rank → leaves s x f ≡ leaves s y f
    agree f up =
        let r = joined (below s f.rank) in
        let same = IsSame-joined (below s f.rank) in
        let j' : joined (below s f.rank) x y ≡ true = joined_below-more s k f.rank x y up j in
        rw (row-same r same x y f.u j', row-same r same x y f.v j') refl

-- z and what is before it leave the component of x no more
quiet_up_to : (e : ListedEdge) (s : EdgeList) (x k : ℕ) → Merging e s x k → (z : ListedEdge) → BothFirst e s k z →
    (f : ListedEdge) → IsIn f (e ∷ s) → k ≤ f.rank → f.rank < suc z.rank → leaves (e ∷ s) x f ≡ false
quiet_up_to e s x k m z b f (inl same) low top =
    absurd (let r : e.rank ≡ f.rank = ap (λ (y : ListedEdge). y.rank) same in let above : e.rank < k = m.above in omega arith)
quiet_up_to e s x k m z b f (inr later) low top =
    leaves-merged e s x k m f low (λ g i low' top'. both-quiet e s k z b g i low' (omega arith))
    ∙ elim (cases_order f.rank z.rank) as (λ _. xor (leaves s e.u f) (leaves s e.v f) ≡ false) [
      | inl level ↦ subst (λ (g : ListedEdge). xor (leaves s e.u g) (leaves s e.v g) ≡ false)
          (apart-one s m.apart.1 z f b.of_u.0.0 later (sym level)) (rw (b.of_u.0.1.0, b.of_v.0.1.0) refl)
      | inr other ↦ elim other as (λ _. xor (leaves s e.u f) (leaves s e.v f) ≡ false) [
        | inl before ↦ (let q = both-quiet e s k z b f later low before in rw (q.0, q.1) refl)
        | inr after ↦ absurd (omega arith)
      ]
    ]

-- One edge is first for both: it joins nothing any more, and what came behind it comes next.
merged-both : (e : ListedEdge) (s : EdgeList) (x k : ℕ) → Merging e s x k → (z : ListedEdge) → BothFirst e s k z →
    next (e ∷ s) x k ≡ next s z.u (suc z.rank)
merged-both e s x k m z b =
    let up : k ≤ z.rank = b.of_u.0.1.1 in
    let above : e.rank < k = m.above in
    IsFirst-one (leaves (e ∷ s) x) (e ∷ s) m.apart k _ _ (next-first (e ∷ s) m.apart x k)
    (first-lower (leaves (e ∷ s) x) (e ∷ s) k (suc z.rank) (next s z.u (suc z.rank)) (omega arith) (quiet_up_to e s x k m z b)
    (subst (λ (o : Option ListedEdge). IsFirst (leaves (e ∷ s) x) (e ∷ s) (suc z.rank) o)
    (next-joined e s m.apart x (suc z.rank) (omega arith) (joined-behind e s x k m z b)
    ∙ next-row s m.apart.1 x z.u (suc z.rank) (joined-x_behind e s x k m z b))
    (next-first (e ∷ s) m.apart x (suc z.rank))))

-- Above e, the chains of its ends are merged into one, and each vertex that is joined to an end has it.
pub next-merged : (e : ListedEdge) (s : EdgeList) (x k : ℕ) → Merging e s x k → next (e ∷ s) x k ≡ merged s (next s e.u k) (next s e.v k)
next-merged e s x k m =
    go (next s e.u k) (next s e.v k) (next-first s m.apart.1 e.u k) (next-first s m.apart.1 e.v k)
  where
    go : (o q : Option ListedEdge) → IsFirst (leaves s e.u) s k o → IsFirst (leaves s e.v) s k q → next (e ∷ s) x k ≡ merged s o q
    go None None hu hv = merged-none e s x k m hu hv
    go None (Some g) hu hv = merged-right e s x k m g None hu hv tt
    go (Some f) None hu hv = merged-left e s x k m f None hu hv tt
    go (Some f) (Some g) hu hv =
        elim (cases_order f.rank g.rank) as (λ _. next (e ∷ s) x k ≡ merged s (Some f) (Some g)) [
          | inl level ↦ rw (le-ltb f.rank g.rank (omega arith), le-ltb g.rank f.rank (omega arith), add-one)
              (merged-both e s x k m f (record { of_u = hu; of_v = subst (λ (h : ListedEdge). IsFirst (leaves s e.v) s k (Some h)) (apart-one s m.apart.1 g f hv.0.0 hu.0.0 (sym level)) hv }))
          | inr other ↦ elim other as (λ _. next (e ∷ s) x k ≡ merged s (Some f) (Some g)) [
            | inl low ↦ rw (lt-ltb f.rank g.rank low) (merged-left e s x k m f (Some g) hu hv low)
            | inr high ↦ rw (le-ltb f.rank g.rank (omega arith), lt-ltb g.rank f.rank high) (merged-right e s x k m g (Some f) hu hv high)
          ]
        ]
