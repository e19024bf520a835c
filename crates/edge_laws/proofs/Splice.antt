-- The splice: what comes next on each chain after an edge e of any rank is taken in.
use Rattle.std.proofs.Common.{◌≡◌, ℕ, suc, ◌<◌, ◌≤◌, Bool, true, false, cond, inl, inr, refl, sym, ◌∙◌, subst, ap, arith, ◌∷◌}
use Rattle.std.specs.Prelude.{◌||◌, Option, Some}
use Rattle.std.proofs.lemmas.Bool.{cases_Bool, cases_order, le-ltb, lt-ltb, true≢false}
use Rattle.edge_laws.specs.Edges.{ListedEdge, EdgeList, AreApart, joined, below, link, next}
use Rattle.hg_base.specs.Lists.{IsIn}
use Rattle.edge_laws.proofs.Walks.{IsSame-joined}
use Rattle.edge_laws.proofs.Sets.{joined_below-more}
use Rattle.edge_laws.proofs.Leaving.{xor, leaves, xor-link, link-same}
use Rattle.edge_laws.proofs.Next.{IsFirst, IsFirst-one, next-first, component-stays}
use Rattle.edge_laws.proofs.Firsts.{IsUpTo, IsBefore, IsBefore-sooner, IsBefore-below, first-quiet, first-agree, first-more, first-before, first-lower}

-- up to e's rank the edges of lower rank are as before
pub below-low : (e : ListedEdge) (s : EdgeList) (k : ℕ) → k ≤ e.rank → below (e ∷ s) k ≡ below s k
below-low e s k h = rw (le-ltb e.rank k h) refl

-- above e's rank they have e besides
pub below-high : (e : ListedEdge) (s : EdgeList) (k : ℕ) → e.rank < k → below (e ∷ s) k ≡ e ∷ below s k
below-high e s k h = rw (lt-ltb e.rank k h) refl

pub joined-low : (e : ListedEdge) (s : EdgeList) (k x y : ℕ) → k ≤ e.rank → joined (below (e ∷ s) k) x y ≡ joined (below s k) x y
joined-low e s k x y h = ap (λ (t : EdgeList). joined t x y) (below-low e s k h)

pub joined-high : (e : ListedEdge) (s : EdgeList) (k x y : ℕ) → e.rank < k →
    joined (below (e ∷ s) k) x y ≡ link (joined (below s k)) e.u e.v x y
joined-high e s k x y h = ap (λ (t : EdgeList). joined t x y) (below-high e s k h)

-- an edge of no higher rank leaves where it did
pub leaves-low : (e : ListedEdge) (s : EdgeList) (x : ℕ) (f : ListedEdge) → f.rank ≤ e.rank → leaves (e ∷ s) x f ≡ leaves s x f
leaves-low e s x f h = rw (joined-low e s f.rank x f.u h, joined-low e s f.rank x f.v h) refl

-- an edge of higher rank leaves where it did, where the ends of e were joined by then
pub leaves-joined : (e : ListedEdge) (s : EdgeList) (x : ℕ) (f : ListedEdge) → e.rank < f.rank → joined (below s f.rank) e.u e.v ≡ true →
    leaves (e ∷ s) x f ≡ leaves s x f
leaves-joined e s x f h j =
    let r = joined (below s f.rank) in
    let same = IsSame-joined (below s f.rank) in
    rw (joined-high e s f.rank x f.u h, joined-high e s f.rank x f.v h, link-same r same e.u e.v x f.u j, link-same r same e.u e.v x f.v j) refl

-- what leaves a component that e joins to another: what left one of the two
pub leaves-apart : (e : ListedEdge) (s : EdgeList) (x : ℕ) (f : ListedEdge) → e.rank < f.rank → joined (below s f.rank) e.u e.v ≡ false →
    leaves (e ∷ s) x f ≡ cond (joined (below s f.rank) x e.u || joined (below s f.rank) x e.v) (xor (leaves s e.u f) (leaves s e.v f)) (leaves s x f)
leaves-apart e s x f h j =
    ap (λ (p : Bool). xor p (joined (below (e ∷ s) f.rank) x f.v)) (joined-high e s f.rank x f.u h)
    ∙ ap (λ (q : Bool). xor (link (joined (below s f.rank)) e.u e.v x f.u) q) (joined-high e s f.rank x f.v h)
    ∙ xor-link (joined (below s f.rank)) (IsSame-joined (below s f.rank)) e.u e.v x f.u f.v j

-- Where e's ends were joined by rank k, nothing changes from there on.
pub next-joined : (e : ListedEdge) (s : EdgeList) → AreApart (e ∷ s) → (x k : ℕ) → e.rank < k → joined (below s k) e.u e.v ≡ true →
    next (e ∷ s) x k ≡ next s x k
next-joined e s h x k low j =
    IsFirst-one (leaves (e ∷ s) x) (e ∷ s) h k _ _ (next-first (e ∷ s) h x k)
    (first-more (leaves (e ∷ s) x) e s k (next s x k) low
    (first-agree (leaves s x) (leaves (e ∷ s) x) s k (next s x k)
    (λ f i up to. leaves-joined e s x f (omega arith) (joined_below-more s k f.rank e.u e.v up j))
    (next-first s h.1 x k)))

-- A vertex that is joined to neither end by rank k has the same edge next.
pub next-elsewhere : (e : ListedEdge) (s : EdgeList) → AreApart (e ∷ s) → (x k : ℕ) → e.rank < k →
    joined (below s k) x e.u ≡ false → joined (below s k) x e.v ≡ false → next (e ∷ s) x k ≡ next s x k
next-elsewhere e s h x k low nu nv =
    IsFirst-one (leaves (e ∷ s) x) (e ∷ s) h k _ _ (next-first (e ∷ s) h x k)
    (first-more (leaves (e ∷ s) x) e s k (next s x k) low
    (first-agree (leaves s x) (leaves (e ∷ s) x) s k (next s x k) agree (next-first s h.1 x k)))
  where
    stays : (f : ListedEdge) → k ≤ f.rank → IsUpTo (next s x k) f.rank → (y : ℕ) → joined (below s f.rank) x y ≡ joined (below s k) x y
    stays f up to y = component-stays s h.1 k f.rank x y up
        (λ g i low' top. first-quiet (leaves s x) s k (next s x k) (next-first s h.1 x k) g i low' (IsBefore-below (next s x k) g.rank f.rank top to))

    agree : (f : ListedEdge) → IsIn f s → k ≤ f.rank → IsUpTo (next s x k) f.rank → leaves (e ∷ s) x f ≡ leaves s x f
    agree f i up to =
        elim (cases_Bool (joined (below s f.rank) e.u e.v)) [
          | inl j ↦ leaves-joined e s x f (omega arith) j
          | inr j ↦ leaves-apart e s x f (omega arith) j
              ∙ rw (stays f up to e.u ∙ nu, stays f up to e.v ∙ nv) refl
        ]

-- Up to e's rank, what came next before e still does.
pub next-before : (e : ListedEdge) (s : EdgeList) → AreApart (e ∷ s) → (x k : ℕ) (f : ListedEdge) → next s x k ≡ Some f → f.rank < e.rank →
    next (e ∷ s) x k ≡ Some f
next-before e s h x k f eq low =
    IsFirst-one (leaves (e ∷ s) x) (e ∷ s) h k _ _ (next-first (e ∷ s) h x k)
    (first-before (leaves (e ∷ s) x) e s k f low
    (first-agree (leaves s x) (leaves (e ∷ s) x) s k (Some f) (λ g i up to. leaves-low e s x g (omega arith))
    (subst (λ (o : Option ListedEdge). IsFirst (leaves s x) s k o) eq (next-first s h.1 x k))))

-- no edge of s that leaves x's component comes from rank k on and before e
abbrev pub ComesNoneBefore : ListedEdge → EdgeList → ℕ → ℕ → Type 0
ComesNoneBefore e s x k = IsBefore (next s x k) e.rank

-- no edge leaves x's component from rank k on and before e
none-before : (e : ListedEdge) (s : EdgeList) → AreApart (e ∷ s) → (x k : ℕ) → ComesNoneBefore e s x k →
    (f : ListedEdge) → IsIn f s → k ≤ f.rank → f.rank < e.rank → leaves (e ∷ s) x f ≡ false
none-before e s h x k none' f i up low =
    leaves-low e s x f (omega arith)
    ∙ first-quiet (leaves s x) s k (next s x k) (next-first s h.1 x k) f i up (IsBefore-sooner (next s x k) f.rank e.rank low none')

-- Where e is the first to leave x's component, it comes next.
pub next-at : (e : ListedEdge) (s : EdgeList) → AreApart (e ∷ s) → (x k : ℕ) → k ≤ e.rank → ComesNoneBefore e s x k → leaves s x e ≡ true →
    next (e ∷ s) x k ≡ Some e
next-at e s h x k up none' t =
    IsFirst-one (leaves (e ∷ s) x) (e ∷ s) h k _ _ (next-first (e ∷ s) h x k) (
      (inl refl, (leaves-low e s x e (omega arith) ∙ t, up)),
      λ f i p low. elim i as (λ _. e.rank ≤ f.rank) [
        | inl same ↦ (let r : e.rank ≡ f.rank = ap (λ (y : ListedEdge). y.rank) same in omega arith)
        | inr later ↦ elim (cases_order f.rank e.rank) as (λ _. e.rank ≤ f.rank) [
          | inl level ↦ omega arith
          | inr other ↦ elim other as (λ _. e.rank ≤ f.rank) [
            | inl before ↦ absurd (true≢false (sym p ∙ none-before e s h x k none' f later low before))
            | inr after ↦ omega arith
          ]
        ]
      ],
    )

-- Where e doesn't leave x's component and nothing did before it, what comes behind e comes next.
pub next-past : (e : ListedEdge) (s : EdgeList) → AreApart (e ∷ s) → (x k : ℕ) → k ≤ e.rank → ComesNoneBefore e s x k → leaves s x e ≡ false →
    next (e ∷ s) x k ≡ next (e ∷ s) x (suc e.rank)
next-past e s h x k up none' t =
    IsFirst-one (leaves (e ∷ s) x) (e ∷ s) h k _ _ (next-first (e ∷ s) h x k)
    (first-lower (leaves (e ∷ s) x) (e ∷ s) k (suc e.rank) (next (e ∷ s) x (suc e.rank)) (omega arith) quiet (next-first (e ∷ s) h x (suc e.rank)))
  where
    quiet : (f : ListedEdge) → IsIn f (e ∷ s) → k ≤ f.rank → f.rank < suc e.rank → leaves (e ∷ s) x f ≡ false
    quiet f (inl same) low top = subst (λ (g : ListedEdge). leaves (e ∷ s) x g ≡ false) same (leaves-low e s x e (omega arith) ∙ t)
    quiet f (inr later) low top =
        elim (cases_order f.rank e.rank) as (λ _. leaves (e ∷ s) x f ≡ false) [
          | inl level ↦ absurd (h.0 f later (sym level))
          | inr other ↦ elim other as (λ _. leaves (e ∷ s) x f ≡ false) [
            | inl before ↦ none-before e s h x k none' f later low before
            | inr after ↦ absurd (omega arith)
          ]
        ]
