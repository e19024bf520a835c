-- The edges below a rank in a list of rising ranks, rank by rank.
use Rattle.std.proofs.Common.{◌≡◌, ◌≢◌, ℕ, suc, ◌<◌, ◌≤◌, inl, inr, refl, ap, arith, [], ◌∷◌, ◌++◌}
use Rattle.std.proofs.lemmas.Bool.{lt-ltb, le-ltb, cases_order}
use Rattle.edge_laws.specs.Edges.{ListedEdge, EdgeList, below}
use Rattle.hg_base.specs.Lists.{IsIn}
use Rattle.edge_laws.proofs.Members.{IsRising}

-- no edge below a rank that none is below
below-none : (t : EdgeList) (k : ℕ) → ((f : ListedEdge) → IsIn f t → k ≤ f.rank) → below t k ≡ []
below-none [] k h = refl
below-none (g ∷ t) k h = rw (le-ltb g.rank k (h g (inl refl))) (below-none t k (λ f i. h f (inr i)))

-- the edges below the next rank are one more where an edge has this rank
pub below-found : (t : EdgeList) → IsRising t → (e : ListedEdge) → IsIn e t → below t (suc e.rank) ≡ below t e.rank ++ e ∷ []
below-found [] h e i = absurd i
below-found (g ∷ t) h e (inl same) =
    let r : g.rank ≡ e.rank = ap (λ (x : ListedEdge). x.rank) same in
    let later : (f : ListedEdge) → IsIn f t → g.rank < f.rank = h.0 in
    rw (
      lt-ltb g.rank (suc e.rank) (omega arith),
      le-ltb g.rank e.rank (omega arith),
      below-none t (suc e.rank) (λ f i. let q : g.rank < f.rank = h.0 f i in omega arith),
      below-none t e.rank (λ f i. let q : g.rank < f.rank = h.0 f i in omega arith),
    ) (ap (λ (x : ListedEdge). x ∷ []) same)
below-found (g ∷ t) h e (inr later) =
    let low : g.rank < e.rank = h.0 e later in
    rw (lt-ltb g.rank (suc e.rank) (omega arith), lt-ltb g.rank e.rank low) (ap (λ (l : EdgeList). g ∷ l) (below-found t h.1 e later))

-- and the same where no edge has it
pub below-missing : (t : EdgeList) (k : ℕ) → ((e : ListedEdge) → IsIn e t → e.rank ≢ k) → below t (suc k) ≡ below t k
below-missing [] k h = refl
below-missing (g ∷ t) k h =
    let rest : below t (suc k) ≡ below t k = below-missing t k (λ e i. h e (inr i)) in
    let other : g.rank ≢ k = h g (inl refl) in
    elim (cases_order g.rank k) [
      | inl level ↦ absurd (other level)
      | inr unlike ↦ elim unlike [
        | inl low ↦ rw (lt-ltb g.rank (suc k) (omega arith), lt-ltb g.rank k low) (ap (λ (l : EdgeList). g ∷ l) rest)
        | inr high ↦ rw (le-ltb g.rank (suc k) (omega arith), le-ltb g.rank k (omega arith)) rest
      ]
    ]

-- a list whose ranks are all below k
pub below-whole : (t : EdgeList) (k : ℕ) → ((e : ListedEdge) → IsIn e t → e.rank < k) → below t k ≡ t
below-whole [] k h = refl
below-whole (g ∷ t) k h = rw (lt-ltb g.rank k (h g (inl refl))) (ap (λ (l : EdgeList). g ∷ l) (below-whole t k (λ e i. h e (inr i))))
