-- Which edges join after one more edge e: e itself unless it is redundant, and all that did but the one that first joined e's ends.
use Rattle.std.proofs.Common.{◌≡◌, ℕ, suc, ◌<◌, ◌≤◌, Bool, true, false, inl, inr, refl, sym, ◌∙◌, subst, ap, arith, ◌∷◌}
use Rattle.std.specs.Prelude.{not, ◌&&◌, ◌↔◌}
use Rattle.std.proofs.lemmas.Bool.{and_parts, false_from_ne_true, cases_Bool, cases_order, true≢false}
use Rattle.edge_laws.specs.Edges.{ListedEdge, EdgeList, AreApart, Joined, joined, below, is_joining, joins, chain}
use Rattle.hg_base.specs.Lists.{IsIn}
use Rattle.edge_laws.specs.Saliency.{MeetFirst}
use Rattle.edge_laws.specs.Splice.{IsRedundant}
use Rattle.edge_laws.proofs.Link.{link_cases}
use Rattle.edge_laws.proofs.Walks.{IsSame-joined, joined-walk, Joined-joined}
use Rattle.edge_laws.proofs.Members.{rising-same}
use Rattle.edge_laws.proofs.Sets.{same_test, joined_below-more, IsIn-joins, IsIn-joins_kept, IsRising-joins, IsRising-chain}
use Rattle.edge_laws.proofs.Fronts.{joined-step_with}
use Rattle.edge_laws.proofs.Leaving.{xor, leaves, link-same, joins-link, crossing_leaves, crossing_back}
use Rattle.edge_laws.proofs.Next.{IsIn-leaving, IsIn-leaving_kept}
use Rattle.edge_laws.proofs.Splice.{joined-low, joined-high, leaves-low, leaves-joined}
use Rattle.edge_laws.proofs.Meeting.{joined-by}

-- the test of a fact that doesn't hold is false
pub untrue : (s : EdgeList) (x y : ℕ) → (Joined s x y → ⊥) → joined s x y ≡ false
untrue s x y h = false_from_ne_true (joined s x y) (λ k. h (Joined-joined s x y k))

-- the test of a fact that holds is true
pub holds : (s : EdgeList) (x y : ℕ) → Joined s x y → joined s x y ≡ true
holds s x y j = joined-walk s x j.0 y j.1

-- a test that is false is of a fact that doesn't hold
pub not-Joined : (s : EdgeList) (x y : ℕ) → joined s x y ≡ false → Joined s x y → ⊥
not-Joined s x y h j = true≢false (sym (holds s x y j) ∙ h)

joining-low : (e : ListedEdge) (s : EdgeList) (f : ListedEdge) → f.rank ≤ e.rank → is_joining (e ∷ s) f ≡ is_joining s f
joining-low e s f h = ap not (joined-low e s f.rank f.u f.v h)

joining-joined : (e : ListedEdge) (s : EdgeList) (f : ListedEdge) → e.rank < f.rank → joined (below s f.rank) e.u e.v ≡ true → is_joining (e ∷ s) f ≡ is_joining s f
joining-joined e s f h j =
    ap not (joined-high e s f.rank f.u f.v h ∙ link-same (joined (below s f.rank)) (IsSame-joined (below s f.rank)) e.u e.v f.u f.v j)

joining-apart : (e : ListedEdge) (s : EdgeList) (f : ListedEdge) → e.rank < f.rank → joined (below s f.rank) e.u e.v ≡ false →
    is_joining (e ∷ s) f ≡ (is_joining s f && not (leaves s e.u f && leaves s e.v f))
joining-apart e s f h j =
    ap not (joined-high e s f.rank f.u f.v h) ∙ joins-link (joined (below s f.rank)) (IsSame-joined (below s f.rank)) e.u e.v f.u f.v j

-- an edge that leaves the components of both ends, while they are apart, is the first to join them
pub meets_both : (s : EdgeList) (a b : ℕ) (f : ListedEdge) → IsIn f s → joined (below s f.rank) a b ≡ false → leaves s a f ≡ true → leaves s b f ≡ true → MeetFirst s a b f
meets_both s a b f i apart ha hb = record {
  member = i;
  behind = λ k lt. Joined-joined (below s k) a b (joined-by s a b f k i ha hb lt);
  before = λ k j. (elim (cases_order f.rank k) [
    | inl level ↦ absurd (not-Joined (below s f.rank) a b apart (subst (λ (m : ℕ). Joined (below s m) a b) (sym level) j))
    | inr other ↦ elim other [
      | inl low ↦ low
      | inr high ↦ absurd (true≢false (sym (joined_below-more s k f.rank a b (omega arith) (holds (below s k) a b j)) ∙ apart))
    ]
  ]);
}

-- the first edge to join two vertices leaves the components of both
pub first_leaves : (s : EdgeList) → AreApart s → (a b : ℕ) (f : ListedEdge) → MeetFirst s a b f → (leaves s a f && leaves s b f) ≡ true
first_leaves s h a b f m =
    let same = IsSame-joined (below s f.rank) in
    let apart : joined (below s f.rank) a b ≡ false = untrue (below s f.rank) a b (λ j. (let lt : f.rank < f.rank = m.before f.rank j in omega arith)) in
    let behind : joined (below s (suc f.rank)) a b ≡ true = holds (below s (suc f.rank)) a b (m.behind (suc f.rank) (omega arith)) in
    elim (link_cases (joined (below s f.rank)) f.u f.v a b (sym (joined-step_with s h f m.member a b) ∙ behind)) [
      | inl old ↦ absurd (true≢false (sym old ∙ apart))
      | inr over ↦ elim over [
        | inl p ↦ crossing_leaves (joined (below s f.rank)) same a b f.u f.v apart p.0 (same.back f.v b p.1)
        | inr p ↦ crossing_back (joined (below s f.rank)) same a b f.u f.v apart p.0 (same.back f.u b p.1)
      ]
    ]

-- an edge of s that joins with e joined without it
joining-before : (e : ListedEdge) (s : EdgeList) → AreApart (e ∷ s) → (f : ListedEdge) → is_joining (e ∷ s) f ≡ true → is_joining s f ≡ true
joining-before e s h f j =
    elim (cases_order f.rank e.rank) [
      | inl level ↦ sym (joining-low e s f (omega arith)) ∙ j
      | inr other ↦ elim other [
        | inl low ↦ sym (joining-low e s f (omega arith)) ∙ j
        | inr high ↦ elim (cases_Bool (joined (below s f.rank) e.u e.v)) [
          | inl joined_by_then ↦ sym (joining-joined e s f high joined_by_then) ∙ j
          | inr apart ↦ (and_parts _ _ (sym (joining-apart e s f high apart) ∙ j)).0
        ]
      ]
    ]

-- Where e isn't redundant, an edge still joins exactly where it isn't the first to join e's ends.
pub joins-kept : (e : ListedEdge) (s : EdgeList) → AreApart (e ∷ s) → (IsRedundant e s → ⊥) → (f : ListedEdge) → IsIn f s →
    IsIn f (joins (e ∷ s)) ↔ (IsIn f (joins s) × (MeetFirst s e.u e.v f → ⊥))
joins-kept e s h needed f i = (down, up)
  where
    never_first : is_joining (e ∷ s) f ≡ true → MeetFirst s e.u e.v f → ⊥
    never_first j m =
        elim (cases_order e.rank f.rank) [
          | inl level ↦ h.0 f i level
          | inr other ↦ elim other [
            | inl high ↦ (let apart : joined (below s f.rank) e.u e.v ≡ false = untrue (below s f.rank) e.u e.v (λ k. (let lt : f.rank < f.rank = m.before f.rank k in omega arith)) in
                true≢false (sym (and_parts _ _ (sym (joining-apart e s f high apart) ∙ j)).1 ∙ ap not (first_leaves s h.1 e.u e.v f m)))
            | inr low ↦ needed (m.behind e.rank low)
          ]
        ]

    down : IsIn f (joins (e ∷ s)) → IsIn f (joins s) × (MeetFirst s e.u e.v f → ⊥)
    down k =
        let p = IsIn-joins_kept (e ∷ s) f k in
        (IsIn-joins s f i (joining-before e s h f p.1), never_first p.1)

    still : is_joining s f ≡ true → (MeetFirst s e.u e.v f → ⊥) → is_joining (e ∷ s) f ≡ true
    still j other_first =
        elim (cases_order f.rank e.rank) [
          | inl level ↦ joining-low e s f (omega arith) ∙ j
          | inr other ↦ elim other [
            | inl low ↦ joining-low e s f (omega arith) ∙ j
            | inr high ↦ elim (cases_Bool (joined (below s f.rank) e.u e.v)) [
              | inl joined_by_then ↦ joining-joined e s f high joined_by_then ∙ j
              | inr apart ↦ elim (cases_Bool (leaves s e.u f && leaves s e.v f)) [
                | inl both ↦ absurd (other_first (meets_both s e.u e.v f i apart (and_parts _ _ both).0 (and_parts _ _ both).1))
                | inr one ↦ joining-apart e s f high apart ∙ rw (j, one) refl
              ]
            ]
          ]
        ]

    up : IsIn f (joins s) × (MeetFirst s e.u e.v f → ⊥) → IsIn f (joins (e ∷ s))
    up k = IsIn-joins (e ∷ s) f (inr i) (still (IsIn-joins_kept s f k.0).1 k.1)

-- e joins where it isn't redundant
pub joins-new : (e : ListedEdge) (s : EdgeList) → (IsRedundant e s → ⊥) → IsIn e (joins (e ∷ s))
joins-new e s needed =
    IsIn-joins (e ∷ s) e (inl refl) (joining-low e s e (omega arith) ∙ ap not (untrue (below s e.rank) e.u e.v needed))

-- by the rank of an edge after e, the ends of a redundant e are joined
redundant-later : (e : ListedEdge) (s : EdgeList) → IsRedundant e s → (k : ℕ) → e.rank ≤ k → joined (below s k) e.u e.v ≡ true
redundant-later e s r k le = joined_below-more s e.rank k e.u e.v le (holds (below s e.rank) e.u e.v r)

-- A redundant edge leaves the joining edges as they are.
pub joins-redundant : (e : ListedEdge) (s : EdgeList) → AreApart (e ∷ s) → IsRedundant e s → joins (e ∷ s) ≡ joins s
joins-redundant e s h r =
    rising-same (joins (e ∷ s)) (joins s) (IsRising-joins (e ∷ s) h) (IsRising-joins s h.1) (record { on = on; back = back })
  where
    on : (f : ListedEdge) → IsIn f (joins (e ∷ s)) → IsIn f (joins s)
    on f i =
        let p = IsIn-joins_kept (e ∷ s) f i in
        elim p.0 as (λ _. IsIn f (joins s)) [
          | inl same ↦ absurd (true≢false (sym p.1 ∙ subst (λ (g : ListedEdge). is_joining (e ∷ s) g ≡ false) same
              (joining-low e s e (omega arith) ∙ ap not (holds (below s e.rank) e.u e.v r))))
          | inr later ↦ IsIn-joins s f later (joining-before e s h f p.1)
        ]

    back : (f : ListedEdge) → IsIn f (joins s) → IsIn f (joins (e ∷ s))
    back f i =
        let p = IsIn-joins_kept s f i in
        IsIn-joins (e ∷ s) f (inr p.0)
        (elim (cases_order f.rank e.rank) [
          | inl level ↦ joining-low e s f (omega arith) ∙ p.1
          | inr other ↦ elim other [
            | inl low ↦ joining-low e s f (omega arith) ∙ p.1
            | inr high ↦ joining-joined e s f high (redundant-later e s r f.rank (omega arith)) ∙ p.1
          ]
        ])

-- two equal tests: not one of two
same_row : (p q : Bool) → p ≡ q → xor p q ≡ false
same_row true true h = refl
same_row true false h = h
same_row false true h = sym h
same_row false false h = refl

-- A redundant edge leaves each chain as it is.
pub chain-redundant : (e : ListedEdge) (s : EdgeList) → AreApart (e ∷ s) → IsRedundant e s → (x : ℕ) → chain (e ∷ s) x ≡ chain s x
chain-redundant e s h r x =
    rising-same (chain (e ∷ s) x) (chain s x) (IsRising-chain (e ∷ s) x h) (IsRising-chain s x h.1) (record { on = on; back = back })
  where
    same_leaves : (f : ListedEdge) → leaves (e ∷ s) x f ≡ leaves s x f
    same_leaves f =
        elim (cases_order f.rank e.rank) [
          | inl level ↦ leaves-low e s x f (omega arith)
          | inr other ↦ elim other [
            | inl low ↦ leaves-low e s x f (omega arith)
            | inr high ↦ leaves-joined e s x f high (redundant-later e s r f.rank (omega arith))
          ]
        ]

    never_out : leaves s x e ≡ false
    never_out =
        let same = IsSame-joined (below s e.rank) in
        same_row (joined (below s e.rank) x e.u) (joined (below s e.rank) x e.v)
        (same_test (joined (below s e.rank) x e.u) (joined (below s e.rank) x e.v)
        (λ k. same.on x e.u e.v k (holds (below s e.rank) e.u e.v r))
        (λ k. same.on x e.v e.u k (same.back e.u e.v (holds (below s e.rank) e.u e.v r))))

    on : (f : ListedEdge) → IsIn f (chain (e ∷ s) x) → IsIn f (chain s x)
    on f i =
        let p = IsIn-leaving_kept (e ∷ s) x f i in
        elim p.0 as (λ _. IsIn f (chain s x)) [
          | inl same ↦ absurd (true≢false (sym (sym (same_leaves f) ∙ p.1) ∙ subst (λ (g : ListedEdge). leaves s x g ≡ false) same never_out))
          | inr later ↦ IsIn-leaving s x f later (sym (same_leaves f) ∙ p.1)
        ]

    back : (f : ListedEdge) → IsIn f (chain s x) → IsIn f (chain (e ∷ s) x)
    back f i =
        let p = IsIn-leaving_kept s x f i in
        IsIn-leaving (e ∷ s) x f (inr p.0) (same_leaves f ∙ p.1)
