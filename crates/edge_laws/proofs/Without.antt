-- An edge of a list that joins nothing can go.
use Rattle.std.proofs.Common.{◌≡◌, ℕ, ◌<◌, inl, inr, sym, ◌∙◌, subst, ap, arith, ◌∷◌}
use Rattle.std.specs.Prelude.{not}
use Rattle.std.proofs.lemmas.Bool.{cases_Bool}
use Rattle.std.proofs.lemmas.Bool.Decides.{eqb_tells}
use Rattle.hg_base.specs.Lists.{IsIn}
use Rattle.edge_laws.specs.Edges.{ListedEdge, EdgeList, AreApart, Joined, joined, below, joins, chain}
use Rattle.edge_laws.specs.Splice.{IsRedundant}
use Rattle.edge_laws.specs.Without.{IsWithout}
use Rattle.edge_laws.proofs.Walks.{Joined-joined}
use Rattle.edge_laws.proofs.Members.{IsSameSet, IsIn-below, IsIn-below_kept}
use Rattle.edge_laws.proofs.Sets.{IsIn-joins, joins-same, chain-same}
use Rattle.edge_laws.proofs.Fronts.{apart-one}
use Rattle.edge_laws.proofs.Drops.{joins-redundant, chain-redundant}
use Rattle.edge_laws.proofs.LawForms.{Joined-among}

-- s and t are apart, t is s without f, and f joins nothing
pub record CanGo (s : EdgeList) (f : ListedEdge) (t : EdgeList) : Type 0 where
  pub apart : AreApart s
  pub rest : AreApart t
  pub idle : IsIn f (joins s) → ⊥
  pub without : IsWithout s f t

-- no edge of t has the rank of f
other-rank : (s : EdgeList) (f : ListedEdge) (t : EdgeList) → CanGo s f t → (e : ListedEdge) → IsIn e t → f.rank ≡ e.rank → ⊥
other-rank s f t g e i level =
    let p = (g.without.others e).0 i in
    p.1 (apart-one s g.apart e f p.0 g.without.member (sym level))

-- so f in front of t is apart again
AreApart-again : (s : EdgeList) (f : ListedEdge) (t : EdgeList) → CanGo s f t → AreApart (f ∷ t)
AreApart-again s f t g = (other-rank s f t g, g.rest)

-- an edge of s is f or one of t
found-again : (s : EdgeList) (f : ListedEdge) (t : EdgeList) → CanGo s f t → (e : ListedEdge) → IsIn e s → IsIn e (f ∷ t)
found-again s f t g e i =
    elim (eqb_tells e.rank f.rank) [
      | inl level ↦ inl (apart-one s g.apart f e g.without.member i (sym level.1))
      | inr unlike ↦ inr ((g.without.others e).1 (i, λ same. unlike.1 (ap (λ (x : ListedEdge). x.rank) same)))
    ]

-- s holds the edges of f in front of t
IsSameSet-again : (s : EdgeList) (f : ListedEdge) (t : EdgeList) → CanGo s f t → IsSameSet s (f ∷ t)
IsSameSet-again s f t g = record {
  on = found-again s f t g;
  back = λ e i. elim i as (λ _. IsIn e s) [
    | inl same ↦ subst (λ (x : ListedEdge). IsIn x s) same g.without.member
    | inr later ↦ ((g.without.others e).0 later).0
  ];
}

-- the edges of lower rank are in t, so they join the ends of f there
IsRedundant-again : (s : EdgeList) (f : ListedEdge) (t : EdgeList) → CanGo s f t → IsRedundant f t
IsRedundant-again s f t g = Joined-among (below s f.rank) (below t f.rank) f.u f.v lower ends
  where
    lower : (e : ListedEdge) → IsIn e (below s f.rank) → IsIn e (below t f.rank)
    lower e i =
        let p = IsIn-below_kept e s f.rank i in
        let low : e.rank < f.rank = p.1 in
        let other : e ≡ f → ⊥ = λ same. let level : e.rank ≡ f.rank = ap (λ (x : ListedEdge). x.rank) same in omega arith in
        IsIn-below e t f.rank ((g.without.others e).1 (p.0, other)) low

    ends : Joined (below s f.rank) f.u f.v
    ends =
        elim (cases_Bool (joined (below s f.rank) f.u f.v)) [
          | inl yes' ↦ Joined-joined (below s f.rank) f.u f.v yes'
          | inr no' ↦ absurd (g.idle (IsIn-joins s f g.without.member (ap not no')))
        ]

-- Without an edge that joins nothing the joining edges are the same ..
pub joins-without : (s : EdgeList) (f : ListedEdge) (t : EdgeList) → CanGo s f t → joins t ≡ joins s
joins-without s f t g =
    let again = AreApart-again s f t g in
    sym (joins-same s (f ∷ t) g.apart again (IsSameSet-again s f t g) ∙ joins-redundant f t again (IsRedundant-again s f t g))

-- .. and so is each chain.
pub chain-without : (s : EdgeList) (f : ListedEdge) (t : EdgeList) → CanGo s f t → (x : ℕ) → chain t x ≡ chain s x
chain-without s f t g x =
    let again = AreApart-again s f t g in
    sym (chain-same s (f ∷ t) x g.apart again (IsSameSet-again s f t g) ∙ chain-redundant f t again (IsRedundant-again s f t g) x)
