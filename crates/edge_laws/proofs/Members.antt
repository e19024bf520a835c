-- Lists of one set of edges, lists in rising rank, and that such lists are equal where they hold the same edges.
use Rattle.std.proofs.Common.{◌≡◌, ℕ, ◌<◌, Bool, true, false, cond, ◌⊎◌, inl, inr, refl, sym, subst, ap, arith, [], ◌∷◌}
use Rattle.std.specs.Prelude.{filter, nat_lt}
use Rattle.std.proofs.lemmas.Bool.{cases_Bool, ltb-true, ltb-false, lt-ltb}
use Rattle.edge_laws.specs.Edges.{ListedEdge, EdgeList, AreApart, placed_by_rank, in_order, below}
use Rattle.hg_base.specs.Lists.{IsIn}
pub use Rattle.edge_laws.specs.Edges.{IsSameSet}
pub use Rattle.edge_laws.specs.Rising.{IsRising}
use Rattle.hg_base.proofs.Lists.{IsIn-filter, IsIn-kept}

pub IsSameSet-back : (s t : EdgeList) → IsSameSet s t → IsSameSet t s
IsSameSet-back s t h = record { on = h.back; back = h.on }

-- a filter keeps the same of both, where the tests agree
pub IsSameSet-filter : (p q : ListedEdge → Bool) (s t : EdgeList) → ((e : ListedEdge) → p e ≡ q e) → IsSameSet s t → IsSameSet (filter p s) (filter q t)
IsSameSet-filter p q s t agree h = record {
  on = λ e i. (let k = IsIn-kept p e s i in IsIn-filter q e t (subst (λ (b : Bool). b ≡ true) (agree e) k.0) (h.on e k.1));
  back = λ e i. (let k = IsIn-kept q e t i in IsIn-filter p e s (subst (λ (b : Bool). b ≡ true) (sym (agree e)) k.0) (h.back e k.1));
}

-- the edges of rank below k of one set
pub IsSameSet-below : (s t : EdgeList) (k : ℕ) → IsSameSet s t → IsSameSet (below s k) (below t k)
IsSameSet-below s t k h = IsSameSet-filter _ _ s t (λ e. refl) h

-- what `below` keeps
pub IsIn-below : (e : ListedEdge) (s : EdgeList) (k : ℕ) → IsIn e s → e.rank < k → IsIn e (below s k)
IsIn-below e s k i h = IsIn-filter (λ f. nat_lt f.rank k) e s (lt-ltb e.rank k h) i

pub IsIn-below_kept : (e : ListedEdge) (s : EdgeList) (k : ℕ) → IsIn e (below s k) → IsIn e s × (e.rank < k)
IsIn-below_kept e s k i =
    let h = IsIn-kept (λ (f : ListedEdge). nat_lt f.rank k) e s i in (h.1, ltb-true e.rank k h.0)

pub IsRising-filter : (p : ListedEdge → Bool) (s : EdgeList) → IsRising s → IsRising (filter p s)
IsRising-filter p [] h = tt
IsRising-filter p (e ∷ s) h =
    elim (p e) as (λ b. IsRising (cond b (e ∷ filter p s) (filter p s)))
    [ true ↦ (λ f i. h.0 f (IsIn-kept p f s i).1, IsRising-filter p s h.1) | false ↦ IsRising-filter p s h.1 ]

-- what is in a list with e put in its place
pub IsIn-placed : (e f : ListedEdge) (s : EdgeList) → (e ≡ f) ⊎ IsIn f s → IsIn f (placed_by_rank e s)
IsIn-placed e f [] h = h
IsIn-placed e f (g ∷ s) h =
    elim (nat_lt e.rank g.rank) as (λ b. IsIn f (cond b (e ∷ g ∷ s) (g ∷ placed_by_rank e s))) [
      | true ↦ h
      | false ↦ elim h [
        | inl same ↦ inr (IsIn-placed e f s (inl same))
        | inr old ↦ elim old [ inl first ↦ inl first | inr later ↦ inr (IsIn-placed e f s (inr later)) ]
      ]
    ]

pub IsIn-placed_back : (e f : ListedEdge) (s : EdgeList) → IsIn f (placed_by_rank e s) → (e ≡ f) ⊎ IsIn f s
IsIn-placed_back e f [] h = h
IsIn-placed_back e f (g ∷ s) h =
    (elim (nat_lt e.rank g.rank) as (λ b. IsIn f (cond b (e ∷ g ∷ s) (g ∷ placed_by_rank e s)) → (e ≡ f) ⊎ IsIn f (g ∷ s)) [
      | true ↦ λ i. i
      | false ↦ λ i. elim i [
        | inl first ↦ inr (inl first)
        | inr later ↦ elim (IsIn-placed_back e f s later) [ inl same ↦ inl same | inr old ↦ inr (inr old) ]
      ]
    ]) h

-- sorting keeps what is in the list
pub IsSameSet-in_order : (s : EdgeList) → IsSameSet s (in_order s)
IsSameSet-in_order [] = record { on = λ e i. i; back = λ e i. i }
IsSameSet-in_order (f ∷ s) =
    let rest = IsSameSet-in_order s in
    record {
      on = λ e i. IsIn-placed f e (in_order s) (elim i as (λ _. (f ≡ e) ⊎ IsIn e (in_order s)) [ inl same ↦ inl same | inr later ↦ inr (rest.on e later) ]);
      back = λ e i. elim (IsIn-placed_back f e (in_order s) i) as (λ _. IsIn e (f ∷ s)) [ inl same ↦ inl same | inr later ↦ inr (rest.back e later) ];
    }

-- an edge put in its place among edges of other ranks
pub IsRising-placed : (e : ListedEdge) (s : EdgeList) → ((f : ListedEdge) → IsIn f s → e.rank ≡ f.rank → ⊥) → IsRising s → IsRising (placed_by_rank e s)
IsRising-placed e [] apart h = (λ f i. absurd i, tt)
IsRising-placed e (g ∷ s) apart h =
    elim (cases_Bool (nat_lt e.rank g.rank)) [
      | inl kept ↦ subst (λ (b : Bool). IsRising (cond b (e ∷ g ∷ s) (g ∷ placed_by_rank e s))) (sym kept)
          (let first : e.rank < g.rank = ltb-true e.rank g.rank kept in (
            λ f i. elim i as (λ _. e.rank < f.rank) [
              | inl same ↦ subst (λ (x : ListedEdge). e.rank < x.rank) same first
              | inr later ↦ (let next : g.rank < f.rank = h.0 f later in omega arith)
            ],
            h,
          ))
      | inr dropped ↦ subst (λ (b : Bool). IsRising (cond b (e ∷ g ∷ s) (g ∷ placed_by_rank e s))) (sym dropped)
          (let unlike : e.rank ≡ g.rank → ⊥ = apart g (inl refl) in
          let last : g.rank < e.rank = (let le = ltb-false e.rank g.rank dropped in grind (arith, le, unlike)) in (
            λ f i. elim (IsIn-placed_back e f s i) as (λ _. g.rank < f.rank) [
              | inl same ↦ subst (λ (x : ListedEdge). g.rank < x.rank) same last
              | inr later ↦ h.0 f later
            ],
            IsRising-placed e s (λ f i. apart f (inr i)) h.1,
          ))
    ]

-- edges of different ranks, sorted, rise
pub IsRising-in_order : (s : EdgeList) → AreApart s → IsRising (in_order s)
IsRising-in_order [] h = tt
IsRising-in_order (e ∷ s) h =
    IsRising-placed e (in_order s) (λ f i. h.0 f ((IsSameSet-in_order s).back f i)) (IsRising-in_order s h.1)

-- the first edges of two rising lists of one set are the same
rising-first : (e f : ListedEdge) (s t : EdgeList) → IsRising (e ∷ s) → IsRising (f ∷ t) → IsSameSet (e ∷ s) (f ∷ t) → e ≡ f
rising-first e f s t hs ht h =
    elim (h.on e (inl refl)) [
      | inl same ↦ sym same
      | inr later ↦ elim (h.back f (inl refl)) [
        | inl same ↦ same
        | inr after ↦ absurd (let a : f.rank < e.rank = ht.0 e later in let b : e.rank < f.rank = hs.0 f after in omega arith)
      ]
    ]

-- what is behind the first edge of a rising list isn't the first
rising-rest : (e : ListedEdge) (s t : EdgeList) → IsRising (e ∷ s) → ((g : ListedEdge) → IsIn g s → IsIn g (e ∷ t)) → (g : ListedEdge) → IsIn g s → IsIn g t
rising-rest e s t hs h g i =
    elim (h g i) [
      | inl same ↦ absurd (let a : e.rank < g.rank = hs.0 g i in let b : e.rank ≡ g.rank = ap (λ (x : ListedEdge). x.rank) same in omega arith)
      | inr later ↦ later
    ]

-- two rising lists that hold the same edges are equal
pub rising-same : (s t : EdgeList) → IsRising s → IsRising t → IsSameSet s t → s ≡ t
rising-same [] [] hs ht h = refl
rising-same [] (f ∷ t) hs ht h = absurd (h.back f (inl refl))
rising-same (e ∷ s) [] hs ht h = absurd (h.on e (inl refl))
rising-same (e ∷ s) (f ∷ t) hs ht h =
    let first : e ≡ f = rising-first e f s t hs ht h in
    let ht' : IsRising (e ∷ t) = subst (λ (x : ListedEdge). IsRising (x ∷ t)) (sym first) ht in
    let on : (g : ListedEdge) → IsIn g (e ∷ s) → IsIn g (e ∷ t) = λ g i. subst (λ (x : ListedEdge). IsIn g (x ∷ t)) (sym first) (h.on g i) in
    let back : (g : ListedEdge) → IsIn g (e ∷ t) → IsIn g (e ∷ s) = λ g i. h.back g (subst (λ (x : ListedEdge). IsIn g (x ∷ t)) first i) in
    let rest : s ≡ t = rising-same s t hs.1 ht.1 (record {
      on = rising-rest e s t hs (λ g i. on g (inr i));
      back = rising-rest e t s ht' (λ g i. back g (inr i));
    }) in
    subst (λ (x : ListedEdge). e ∷ s ≡ x ∷ t) first (ap (λ (r : EdgeList). e ∷ r) rest)
