-- From one front to the next, and where two chains meet.
use Rattle.std.proofs.Common.{◌≡◌, ℕ, zero, suc, ◌<◌, Bool, true, ◌⊎◌, inl, inr, refl, sym, ◌∙◌, subst, ap, arith, List, [], ◌∷◌}
use Rattle.std.specs.Prelude.{not}
use Rattle.std.proofs.lemmas.Bool.{cases_Bool, cases_order, or_cases, or_left, or_right}
use Rattle.std.proofs.lemmas.Bool.Decides.{eqb_tells}
use Rattle.edge_laws.specs.Edges.{ListedEdge, EdgeList, AreApart, IsWalk, joined, below, link, is_joining, touches}
use Rattle.hg_base.specs.Lists.{IsIn}
use Rattle.edge_laws.proofs.Link.{IsSame, link_cases}
use Rattle.edge_laws.proofs.Walks.{IsSame-joined, joined-ends, Joined-joined}
use Rattle.edge_laws.proofs.Members.{IsSameSet, IsIn-below, IsIn-below_kept}
use Rattle.edge_laws.proofs.Sets.{joined-same, joined_below-more, IsOnChain}

-- some edge of the list has rank k, or none has
pub rank_found : (s : EdgeList) (k : ℕ) → ((e : ListedEdge) × (IsIn e s × (e.rank ≡ k))) ⊎ ((e : ListedEdge) → IsIn e s → e.rank ≡ k → ⊥)
rank_found [] k = inr (λ e i h. i)
rank_found (f ∷ s) k =
    elim (eqb_tells f.rank k) [
      | inl here ↦ inl (f, (inl refl, here.1))
      | inr other ↦ elim (rank_found s k) [
        | inl later ↦ inl (later.0, (inr later.1.0, later.1.1))
        | inr never ↦ inr (λ e i h. elim i [
          | inl same ↦ other.1 (subst (λ (x : ListedEdge). x.rank ≡ k) (sym same) h)
          | inr rest ↦ never e rest h
        ])
      ]
    ]

-- two edges of a list that have one rank are one
pub apart-one : (s : EdgeList) → AreApart s → (e f : ListedEdge) → IsIn e s → IsIn f s → e.rank ≡ f.rank → e ≡ f
apart-one [] h e f i j r = absurd i
apart-one (g ∷ s) h e f (inl a) (inl b) r = sym a ∙ b
apart-one (g ∷ s) h e f (inl a) (inr j) r = absurd (h.0 f j (ap (λ (x : ListedEdge). x.rank) a ∙ r))
apart-one (g ∷ s) h e f (inr i) (inl b) r = absurd (h.0 e i (ap (λ (x : ListedEdge). x.rank) b ∙ sym r))
apart-one (g ∷ s) h e f (inr i) (inr j) r = apart-one s h.1 e f i j r

-- the next front has e besides, where e has that rank
front_with : (s : EdgeList) → AreApart s → (e : ListedEdge) → IsIn e s → IsSameSet (below s (suc e.rank)) (e ∷ below s e.rank)
front_with s h e i = record {
  on = λ f j. (let p = IsIn-below_kept f s (suc e.rank) j in
      elim (cases_order f.rank e.rank) as (λ _. IsIn f (e ∷ below s e.rank)) [
        | inl same ↦ inl (apart-one s h e f i p.0 (sym same))
        | inr other ↦ elim other as (λ _. IsIn f (e ∷ below s e.rank)) [
          | inl low ↦ inr (IsIn-below f s e.rank p.0 low)
          | inr high ↦ absurd (let top : f.rank < suc e.rank = p.1 in omega arith)
        ]
      ]);
  back = λ f j. elim j as (λ _. IsIn f (below s (suc e.rank))) [
    | inl same ↦ subst (λ (x : ListedEdge). IsIn x (below s (suc e.rank))) same (IsIn-below e s (suc e.rank) i (omega arith))
    | inr low ↦ (let p = IsIn-below_kept f s e.rank low in
        IsIn-below f s (suc e.rank) p.0 (let top : f.rank < e.rank = p.1 in omega arith))
  ];
}

-- the next front is the same, where no edge has that rank
front_without : (s : EdgeList) (k : ℕ) → ((e : ListedEdge) → IsIn e s → e.rank ≡ k → ⊥) → IsSameSet (below s (suc k)) (below s k)
front_without s k never = record {
  on = λ f j. (let p = IsIn-below_kept f s (suc k) j in
      IsIn-below f s k p.0 (let top : f.rank < suc k = p.1 in let other : f.rank ≡ k → ⊥ = never f p.0 in grind (arith, top, other)));
  back = λ f j. (let p = IsIn-below_kept f s k j in
      IsIn-below f s (suc k) p.0 (let top : f.rank < k = p.1 in omega arith));
}

-- who is joined after e: who was joined before, and who e links
pub joined-step_with : (s : EdgeList) → AreApart s → (e : ListedEdge) → IsIn e s → (x y : ℕ) →
    joined (below s (suc e.rank)) x y ≡ link (joined (below s e.rank)) e.u e.v x y
joined-step_with s h e i x y = joined-same (below s (suc e.rank)) (e ∷ below s e.rank) x y (front_with s h e i)

-- nobody else is joined where no edge has that rank
pub joined-step_without : (s : EdgeList) (k : ℕ) → ((e : ListedEdge) → IsIn e s → e.rank ≡ k → ⊥) → (x y : ℕ) →
    joined (below s (suc k)) x y ≡ joined (below s k) x y
joined-step_without s k never x y = joined-same _ _ x y (front_without s k never)

-- no edge has a rank below 0, so each vertex is joined to itself alone
first_front-walk : (s : EdgeList) (x : ℕ) (zs : List ℕ) (y : ℕ) → IsWalk (below s 0) x zs y → x ≡ y
first_front-walk s x [] y w = w
first_front-walk s x (z ∷ zs) y w =
    absurd (let low : w.0.0.rank < 0 = (IsIn-below_kept w.0.0 s 0 w.0.1.0).1 in omega arith)

-- no edge has a rank below 0, so each vertex is joined to itself alone
pub joined-first_front : (s : EdgeList) (x y : ℕ) → joined (below s 0) x y ≡ true → x ≡ y
joined-first_front s x y h = let w = Joined-joined (below s 0) x y h in first_front-walk s x w.0 y w.1

-- the chains of x and y share an edge of rank below k
pub record MeetBelow (s : EdgeList) (k x y : ℕ) : Type 0 where
  pub edge : ListedEdge
  pub first : IsOnChain s x edge
  pub second : IsOnChain s y edge
  pub low : edge.rank < k

meet_later : (s : EdgeList) (k x y : ℕ) → (x ≡ y) ⊎ MeetBelow s k x y → (x ≡ y) ⊎ MeetBelow s (suc k) x y
meet_later s k x y (inl same) = inl same
meet_later s k x y (inr m) =
    inr (record { edge = m.edge; first = m.first; second = m.second; low = let low : m.edge.rank < k = m.low in omega arith })

-- x and y, each joined to an end of a joining edge e, have it on their chains
meet_at : (s : EdgeList) (e : ListedEdge) (x y : ℕ) → IsIn e s → is_joining s e ≡ true → touches s x e ≡ true → touches s y e ≡ true → MeetBelow s (suc e.rank) x y
meet_at s e x y i j tx ty = record {
  edge = e;
  first = record { member = i; joining = j; touching = tx };
  second = record { member = i; joining = j; touching = ty };
  low = omega arith;
}

-- an edge whose ends were joined before joins nobody
link-joined : (r : ℕ → ℕ → Bool) → IsSame r → (u v x y : ℕ) → r u v ≡ true → link r u v x y ≡ true → r x y ≡ true
link-joined r same u v x y old h = grind (arith, link_cases r u v x y h, same.on, same.back)

-- e, the edge of rank k, was the first to join x and y, or they were joined before
met_with : (s : EdgeList) (e : ListedEdge) → IsIn e s → (x y : ℕ) → link (joined (below s e.rank)) e.u e.v x y ≡ true →
    (joined (below s e.rank) x y ≡ true) ⊎ MeetBelow s (suc e.rank) x y
met_with s e i x y h =
    let same = IsSame-joined (below s e.rank) in
    elim (cases_Bool (joined (below s e.rank) e.u e.v)) [
      | inl old ↦ inl (link-joined (joined (below s e.rank)) same e.u e.v x y old h)
      | inr new ↦ elim (link_cases (joined (below s e.rank)) e.u e.v x y h) [
        | inl before ↦ inl before
        | inr over ↦ elim over [
          | inl p ↦ inr (meet_at s e x y i (ap not new) (or_left _ _ p.0) (or_right _ _ (same.back e.v y p.1)))
          | inr p ↦ inr (meet_at s e x y i (ap not new) (or_right _ _ p.0) (or_left _ _ (same.back e.u y p.1)))
        ]
      ]
    ]

-- the step of `joined-meet` where e has rank k
joined-meet_at : (s : EdgeList) → AreApart s → (k : ℕ) (e : ListedEdge) → IsIn e s → e.rank ≡ k → (x y : ℕ) → joined (below s (suc k)) x y ≡ true →
    (joined (below s k) x y ≡ true → (x ≡ y) ⊎ MeetBelow s k x y) → (x ≡ y) ⊎ MeetBelow s (suc k) x y
joined-meet_at s h k e i r x y j before =
    let j' : joined (below s (suc e.rank)) x y ≡ true = subst (λ (n : ℕ). joined (below s (suc n)) x y ≡ true) (sym r) j in
    elim (met_with s e i x y (sym (joined-step_with s h e i x y) ∙ j')) [
      | inl old ↦ meet_later s k x y (before (subst (λ (n : ℕ). joined (below s n) x y ≡ true) r old))
      | inr new ↦ inr (subst (λ (n : ℕ). MeetBelow s (suc n) x y) r new)
    ]

-- joined by the edges of rank below k: one vertex, or chains that share an edge of rank below k
pub joined-meet : (s : EdgeList) → AreApart s → (k x y : ℕ) → joined (below s k) x y ≡ true → (x ≡ y) ⊎ MeetBelow s k x y
joined-meet s h zero x y j = inl (joined-first_front s x y j)
joined-meet s h (suc k) x y j =
    elim (rank_found s k) [
      | inl found ↦ joined-meet_at s h k found.0 found.1.0 found.1.1 x y j (joined-meet s h k x y)
      | inr never ↦ meet_later s k x y (joined-meet s h k x y (sym (joined-step_without s k never x y) ∙ j))
    ]

-- who touches e is joined to its first end once e is there
touching-joined : (s : EdgeList) (e : ListedEdge) (k x : ℕ) → IsIn e s → touches s x e ≡ true → e.rank < k → joined (below s k) x e.u ≡ true
touching-joined s e k x i t low =
    let same = IsSame-joined (below s k) in
    let ends : joined (below s k) e.u e.v ≡ true = joined-ends (below s k) e (IsIn-below e s k i low) in
    elim (or_cases _ _ t) [
      | inl first ↦ joined_below-more s e.rank k x e.u (omega arith) first
      | inr second ↦ same.on x e.v e.u (joined_below-more s e.rank k x e.v (omega arith) second) (same.back e.u e.v ends)
    ]

-- chains that share an edge of rank below k are of vertices that the edges of rank below k join
pub meet-joined : (s : EdgeList) (k x y : ℕ) → (x ≡ y) ⊎ MeetBelow s k x y → joined (below s k) x y ≡ true
meet-joined s k x y (inl same) = subst (λ (z : ℕ). joined (below s k) x z ≡ true) same ((IsSame-joined (below s k)).self x)
meet-joined s k x y (inr m) =
    let same = IsSame-joined (below s k) in
    same.on x m.edge.u y
    (touching-joined s m.edge k x m.first.member m.first.touching m.low)
    (same.back y m.edge.u (touching-joined s m.edge k y m.second.member m.second.touching m.low))
