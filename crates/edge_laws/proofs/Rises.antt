-- The places of the edges of a list in rising rank.
use Rattle.std.proofs.Common.{◌≡◌, ℕ, zero, suc, ◌<◌, inl, inr, ◌∙◌, ap, arith, [], ◌∷◌, length}
use Rattle.std.specs.Prelude.{Some, slice_get}
use Rattle.std.proofs.lemmas.Bool.{lt-ltb}
use Rattle.edge_laws.specs.Edges.{ListedEdge, EdgeList, below}
use Rattle.hg_base.specs.Lists.{IsIn}
use Rattle.edge_laws.proofs.Members.{IsRising, IsIn-below_kept}
use Rattle.hg_base.proofs.Lists.{nothing-in}

-- no edge of a rising list has a lower rank than the first
pub none_before_first : (g : ListedEdge) (t : EdgeList) → IsRising (g ∷ t) → (e : ListedEdge) → g ≡ e → below (g ∷ t) e.rank ≡ []
none_before_first g t h e same = nothing-in (below (g ∷ t) e.rank) (λ f k.
    (let p = IsIn-below_kept f (g ∷ t) e.rank k in
    let low : f.rank < e.rank = p.1 in
    let r : g.rank ≡ e.rank = ap (λ (x : ListedEdge). x.rank) same in
    elim p.0 as (λ _. ⊥) [
      | inl first ↦ (let q : g.rank ≡ f.rank = ap (λ (x : ListedEdge). x.rank) first in omega arith)
      | inr later ↦ (let q : g.rank < f.rank = h.0 f later in omega arith)
    ]))

-- an edge of a rising list stands behind the edges of lower rank
pub rising-place : (t : EdgeList) → IsRising t → (e : ListedEdge) → IsIn e t → slice_get t (length (below t e.rank)) ≡ Some e
rising-place [] h e i = absurd i
rising-place (g ∷ t) h e (inl same) =
    ap (λ (u : EdgeList). slice_get (g ∷ t) (length u)) (none_before_first g t h e same) ∙ ap Some same
rising-place (g ∷ t) h e (inr later) =
    let low : g.rank < e.rank = h.0 e later in
    rw (lt-ltb g.rank e.rank low) (rising-place t h.1 e later)

-- the i-th edge of a rising list has i edges of lower rank
pub rising-index : (t : EdgeList) → IsRising t → (i : ℕ) (e : ListedEdge) → slice_get t i ≡ Some e → IsIn e t × (length (below t e.rank) ≡ i)
rising-index [] h i e eq = absurd (cc)
rising-index (g ∷ t) h zero e eq =
    let same : g ≡ e = cc in
    (inl same, ap (λ (u : EdgeList). length u) (none_before_first g t h e same))
rising-index (g ∷ t) h (suc i) e eq =
    let rest = rising-index t h.1 i e eq in
    let low : g.rank < e.rank = h.0 e rest.0 in
    (inr rest.0, rw (lt-ltb g.rank e.rank low) (let q : length (below t e.rank) ≡ i = rest.1 in omega arith))

-- edges of a rising list: the one of lower rank has fewer edges below it
pub rising-fewer : (t : EdgeList) → IsRising t → (g e : ListedEdge) → IsIn g t → IsIn e t → g.rank < e.rank → length (below t g.rank) < length (below t e.rank)
rising-fewer [] h g e i j lt = absurd i
rising-fewer (c ∷ t) h g e (inl same) j lt =
    let q : c.rank ≡ g.rank = ap (λ (x : ListedEdge). x.rank) same in
    let none' : length (below (c ∷ t) g.rank) ≡ 0 = ap (λ (u : EdgeList). length u) (none_before_first c t h g same) in
    rw (none', lt-ltb c.rank e.rank (omega arith)) (omega arith)
rising-fewer (c ∷ t) h g e (inr i) (inl same) lt =
    absurd (let q : c.rank ≡ e.rank = ap (λ (x : ListedEdge). x.rank) same in let r : c.rank < g.rank = h.0 g i in omega arith)
rising-fewer (c ∷ t) h g e (inr i) (inr j) lt =
    let p : c.rank < g.rank = h.0 g i in
    let q : c.rank < e.rank = h.0 e j in
    let rest : length (below t g.rank) < length (below t e.rank) = rising-fewer t h.1 g e i j lt in
    rw (lt-ltb c.rank g.rank p, lt-ltb c.rank e.rank q) (omega arith)
