-- How a first edge carries over from one test, list or rank to another.
use Rattle.std.proofs.Common.{◌≡◌, ℕ, ◌<◌, ◌≤◌, Bool, false, inl, inr, sym, ◌∙◌, subst, arith, ◌∷◌, ap}
use Rattle.std.specs.Prelude.{Option, Some, None}
use Rattle.std.proofs.lemmas.Bool.{cases_Bool, cases_order, true≢false}
use Rattle.edge_laws.specs.Edges.{ListedEdge, EdgeList}
use Rattle.hg_base.specs.Lists.{IsIn}
pub use Rattle.edge_laws.specs.Splice.{ComesAfter as IsBefore}
use Rattle.edge_laws.proofs.Next.{IsFirst}

-- rank n is not above the edge, where there is one
abbrev pub IsUpTo : Option ListedEdge → ℕ → Type 0
IsUpTo None n = Unit {0}
IsUpTo (Some f) n = n ≤ f.rank

-- a rank below one that is before the edge is before it
pub IsBefore-sooner : (o : Option ListedEdge) (m n : ℕ) → m < n → IsBefore o n → IsBefore o m
IsBefore-sooner None m n lt before = tt
IsBefore-sooner (Some g) m n lt before = omega arith

-- a rank below one that isn't above the edge is before it
pub IsBefore-below : (o : Option ListedEdge) (m n : ℕ) → m < n → IsUpTo o n → IsBefore o m
IsBefore-below None m n lt to = tt
IsBefore-below (Some g) m n lt to = omega arith

-- no edge before the first passes the test
pub first-quiet : (p : ListedEdge → Bool) (s : EdgeList) (k : ℕ) (o : Option ListedEdge) → IsFirst p s k o →
    (g : ListedEdge) → IsIn g s → k ≤ g.rank → IsBefore o g.rank → p g ≡ false
first-quiet p s k None h g i up before =
    elim (cases_Bool (p g)) [
      | inl passes ↦ absurd (let low : g.rank < k = h g i passes in omega arith)
      | inr fails ↦ fails
    ]
first-quiet p s k (Some f) h g i up before =
    elim (cases_Bool (p g)) [
      | inl passes ↦ absurd (let low : f.rank ≤ g.rank = h.1 g i passes up in omega arith)
      | inr fails ↦ fails
    ]

-- the first edge by another test that agrees up to it
pub first-agree : (p q : ListedEdge → Bool) (s : EdgeList) (k : ℕ) (o : Option ListedEdge) →
    ((f : ListedEdge) → IsIn f s → k ≤ f.rank → IsUpTo o f.rank → q f ≡ p f) → IsFirst p s k o → IsFirst q s k o
first-agree p q s k None agree h = λ f i t.
    elim (cases_order f.rank k) [
      | inl level ↦ h f i (sym (agree f i (omega arith) tt) ∙ t)
      | inr other ↦ elim other [ inl low ↦ low | inr high ↦ h f i (sym (agree f i (omega arith) tt) ∙ t) ]
    ]
first-agree p q s k (Some g) agree h = (
  (h.0.0, (agree g h.0.0 h.0.1.1 (omega arith) ∙ h.0.1.0, h.0.1.1)),
  λ f i t up. elim (cases_order f.rank g.rank) [
    | inl level ↦ omega arith
    | inr other ↦ elim other [
      | inl low ↦ h.1 f i (sym (agree f i up (omega arith)) ∙ t) up
      | inr high ↦ omega arith
    ]
  ],
)

-- an edge of a rank below k isn't the first from k on
pub first-more : (p : ListedEdge → Bool) (e : ListedEdge) (s : EdgeList) (k : ℕ) (o : Option ListedEdge) → e.rank < k → IsFirst p s k o → IsFirst p (e ∷ s) k o
first-more p e s k None low h = λ f i t. elim i as (λ _. f.rank < k)
    [ inl same ↦ subst (λ (x : ListedEdge). x.rank < k) same low | inr later ↦ h f later t ]
first-more p e s k (Some g) low h = (
  (inr h.0.0, h.0.1),
  λ f i t up. elim i as (λ _. g.rank ≤ f.rank) [
    | inl same ↦ absurd (let r : e.rank ≡ f.rank = ap (λ (x : ListedEdge). x.rank) same in omega arith)
    | inr later ↦ h.1 f later t up
  ],
)

-- the first edge from a lower rank on, where none passes in between
pub first-lower : (p : ListedEdge → Bool) (s : EdgeList) (k j : ℕ) (o : Option ListedEdge) → k ≤ j →
    ((f : ListedEdge) → IsIn f s → k ≤ f.rank → f.rank < j → p f ≡ false) → IsFirst p s j o → IsFirst p s k o
first-lower p s k j None up quiet h = λ f i t.
    elim (cases_order f.rank k) [
      | inl level ↦ absurd (true≢false (sym t ∙ quiet f i (omega arith) (h f i t)))
      | inr other ↦ elim other [
        | inl low ↦ low
        | inr high ↦ absurd (true≢false (sym t ∙ quiet f i (omega arith) (h f i t)))
      ]
    ]
first-lower p s k j (Some g) up quiet h = (
  (h.0.0, (h.0.1.0, (let b : j ≤ g.rank = h.0.1.1 in omega arith))),
  λ f i t low. elim (cases_order f.rank j) [
    | inl level ↦ h.1 f i t (omega arith)
    | inr other ↦ elim other [
      | inl below_j ↦ absurd (true≢false (sym t ∙ quiet f i low below_j))
      | inr above_j ↦ h.1 f i t (omega arith)
    ]
  ],
)

-- the first edge from a higher rank on, up to the first
pub first-higher : (p : ListedEdge → Bool) (s : EdgeList) (k j : ℕ) (o : Option ListedEdge) → k ≤ j → IsUpTo o j → IsFirst p s k o → IsFirst p s j o
first-higher p s k j None up to h = λ f i t. (let low : f.rank < k = h f i t in omega arith)
first-higher p s k j (Some g) up to h =
    ((h.0.0, (h.0.1.0, to)), λ f i t low. h.1 f i t (omega arith))

-- an edge of a rank above the first isn't the first
pub first-before : (p : ListedEdge → Bool) (e : ListedEdge) (s : EdgeList) (k : ℕ) (g : ListedEdge) → g.rank < e.rank → IsFirst p s k (Some g) → IsFirst p (e ∷ s) k (Some g)
first-before p e s k g low h = (
  (inr h.0.0, h.0.1),
  λ f i t up. elim i as (λ _. g.rank ≤ f.rank) [
    | inl same ↦ (let r : e.rank ≡ f.rank = ap (λ (x : ListedEdge). x.rank) same in omega arith)
    | inr later ↦ h.1 f later t up
  ],
)
