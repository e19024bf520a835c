-- Two edge lists over vertices that lie apart, put side by side: nothing changes on either side.
use Rattle.std.proofs.Common.{◌≡◌, ℕ, Bool, true, false, ◌⊎◌, inl, inr, refl, sym, ◌∙◌, subst, ap, List, [], ◌∷◌, ◌++◌}
use Rattle.std.specs.Prelude.{not, nat_lt}
use Rattle.std.proofs.lemmas.Bool.{false_from_ne_true, true≢false}
use Rattle.std.proofs.lemmas.List.Elements.{filter-append}
use Rattle.std.proofs.lemmas.List.{append-nil}
use Rattle.edge_laws.specs.Edges.{ListedEdge, EdgeList, AreEnds, AreApart, IsSameSet, IsWalk, joined, below, chain}
use Rattle.hg_base.specs.Lists.{IsIn}
pub use Rattle.edge_laws.specs.SideBySide.{AreInside, AreOutside, SideBySide}
use Rattle.edge_laws.proofs.Walks.{joined-walk, Joined-joined}
use Rattle.edge_laws.proofs.Members.{IsIn-below_kept, rising-same}
use Rattle.edge_laws.proofs.Sets.{same_test, joined-among, chain-same, IsRising-chain}
use Rattle.hg_base.proofs.Lists.{IsIn-append, IsIn-append_back}
use Rattle.edge_laws.proofs.Leaving.{leaves}
use Rattle.edge_laws.proofs.Next.{IsIn-leaving, IsIn-leaving_kept}

-- a step from an inside vertex is by an edge of s
step-inside : (p : ℕ → Bool) (s t : EdgeList) → AreOutside p t → (x z : ℕ) → p x ≡ true → (e : ListedEdge) → IsIn e (s ++ t) → AreEnds e x z → IsIn e s
step-inside p s t out x z px e i ends =
    elim (IsIn-append_back e s t i) [
      | inl in_s ↦ in_s
      | inr in_t ↦ absurd (elim ends as (λ _. ⊥) [
        | inl q ↦ true≢false (sym px ∙ sym (ap p q.0) ∙ (out e in_t).0)
        | inr q ↦ true≢false (sym px ∙ sym (ap p q.0) ∙ (out e in_t).1)
      ])
    ]

-- the far end of an inside edge is inside
end-inside : (p : ℕ → Bool) (s : EdgeList) → AreInside p s → (x z : ℕ) (e : ListedEdge) → IsIn e s → AreEnds e x z → p z ≡ true
end-inside p s ins x z e i (inl q) = sym (ap p q.1) ∙ (ins e i).1
end-inside p s ins x z e i (inr q) = sym (ap p q.1) ∙ (ins e i).0

-- a walk from an inside vertex stays inside
walk-inside : (p : ℕ → Bool) (s t : EdgeList) → AreInside p s → AreOutside p t → (x : ℕ) (zs : List ℕ) (y : ℕ) → p x ≡ true → IsWalk (s ++ t) x zs y → IsWalk s x zs y
walk-inside p s t ins out x [] y px w = w
walk-inside p s t ins out x (z ∷ zs) y px w =
    let i : IsIn w.0.0 s = step-inside p s t out x z px w.0.0 w.0.1.0 w.0.1.1 in
    ((w.0.0, (i, w.0.1.1)), walk-inside p s t ins out z zs y (end-inside p s ins x z w.0.0 i w.0.1.1) w.1)

-- whom inside edges join to an inside vertex is inside
walk-stays_in : (p : ℕ → Bool) (s : EdgeList) → AreInside p s → (x : ℕ) (zs : List ℕ) (y : ℕ) → p x ≡ true → IsWalk s x zs y → p y ≡ true
walk-stays_in p s ins x [] y px w = sym (ap p w) ∙ px
walk-stays_in p s ins x (z ∷ zs) y px w = walk-stays_in p s ins z zs y (end-inside p s ins x z w.0.0 w.0.1.0 w.0.1.1) w.1

pub joined-stays_in : (p : ℕ → Bool) (s : EdgeList) → AreInside p s → (x y : ℕ) → p x ≡ true → joined s x y ≡ true → p y ≡ true
joined-stays_in p s ins x y px j = let w = Joined-joined s x y j in walk-stays_in p s ins x w.0 y px w.1

-- who is joined to an inside vertex by both lists is by the inside one
pub joined-inside : (p : ℕ → Bool) (s t : EdgeList) → AreInside p s → AreOutside p t → (x y : ℕ) → p x ≡ true → joined (s ++ t) x y ≡ joined s x y
joined-inside p s t ins out x y px =
    same_test (joined (s ++ t) x y) (joined s x y)
    (λ k. let w = Joined-joined (s ++ t) x y k in joined-walk s x w.0 y (walk-inside p s t ins out x w.0 y px w.1))
    (λ k. joined-among s (s ++ t) x y (λ e i. IsIn-append e s t (inl i)) k)

-- the edges of lower rank of two lists
below-append : (s t : EdgeList) (k : ℕ) → below (s ++ t) k ≡ below s k ++ below t k
below-append s t k = filter-append (λ e. nat_lt e.rank k) s t

joined_below-inside : (p : ℕ → Bool) (s t : EdgeList) → AreInside p s → AreOutside p t → (k x y : ℕ) → p x ≡ true → joined (below (s ++ t) k) x y ≡ joined (below s k) x y
joined_below-inside p s t ins out k x y px =
    ap (λ (l : EdgeList). joined l x y) (below-append s t k)
    ∙ joined-inside p (below s k) (below t k)
    (λ e i. ins e (IsIn-below_kept e s k i).0) (λ e i. out e (IsIn-below_kept e t k i).0) x y px

-- an edge leaves the component of an inside vertex where it did
leaves-inside : (p : ℕ → Bool) (s t : EdgeList) → SideBySide p s t → (x : ℕ) → p x ≡ true → (f : ListedEdge) → leaves (s ++ t) x f ≡ leaves s x f
leaves-inside p s t b x px f =
    rw (joined_below-inside p s t b.inside b.outside f.rank x f.u px, joined_below-inside p s t b.inside b.outside f.rank x f.v px) refl

-- inside edges join an inside vertex to no outside one
never-out : (p : ℕ → Bool) (s t : EdgeList) → SideBySide p s t → (x : ℕ) → p x ≡ true → (k y : ℕ) → p y ≡ false → joined (below s k) x y ≡ false
never-out p s t b x px k y out =
    false_from_ne_true (joined (below s k) x y) (λ j. true≢false (sym (joined-stays_in p (below s k) (λ e i. b.inside e (IsIn-below_kept e s k i).0) x y px j) ∙ out))

-- what leaves the component of an inside vertex is inside
leaving-inside : (p : ℕ → Bool) (s t : EdgeList) → SideBySide p s t → (x : ℕ) → p x ≡ true → (f : ListedEdge) → IsIn f (s ++ t) → leaves (s ++ t) x f ≡ true → IsIn f s
leaving-inside p s t b x px f i h =
    elim (IsIn-append_back f s t i) [
      | inl in_s ↦ in_s
      | inr in_t ↦ absurd (true≢false (sym (sym (leaves-inside p s t b x px f) ∙ h)
          ∙ rw (never-out p s t b x px f.rank f.u (b.outside f in_t).0, never-out p s t b x px f.rank f.v (b.outside f in_t).1) refl))
    ]

-- both lists have edges of different ranks, where they have together
pub AreApart-front : (s t : EdgeList) → AreApart (s ++ t) → AreApart s
AreApart-front [] t h = tt
AreApart-front (e ∷ s) t h = (λ f i. h.0 f (IsIn-append f s t (inl i)), AreApart-front s t h.1)

pub AreApart-back : (s t : EdgeList) → AreApart (s ++ t) → AreApart t
AreApart-back [] t h = h
AreApart-back (e ∷ s) t h = AreApart-back s t h.1

-- an edge more, of a rank that the list hasn't, in the middle of it
AreApart-between : (e : ListedEdge) (s t : EdgeList) → AreApart (s ++ t) → ((f : ListedEdge) → IsIn f (s ++ t) → e.rank ≡ f.rank → ⊥) → AreApart (s ++ (e ∷ t))
AreApart-between e [] t h new = (new, h)
AreApart-between e (g ∷ s) t h new = (
  λ f i r. (elim (IsIn-append_back f s (e ∷ t) i) as (λ _. ⊥) [
    | inl in_s ↦ h.0 f (IsIn-append f s t (inl in_s)) r
    | inr rest ↦ elim rest as (λ _. ⊥) [
      | inl same ↦ new g (inl refl) (ap (λ (x : ListedEdge). x.rank) same ∙ sym r)
      | inr in_t ↦ h.0 f (IsIn-append f s t (inr in_t)) r
    ]
  ]),
  AreApart-between e s t h.1 (λ f i. new f (inr i)),
)

-- the order of the two lists is free
pub AreApart-turned : (s t : EdgeList) → AreApart (s ++ t) → AreApart (t ++ s)
AreApart-turned [] t h = subst AreApart (sym (append-nil t)) h
AreApart-turned (e ∷ s) t h =
    AreApart-between e t s (AreApart-turned s t h.1)
    (λ f i r. h.0 f (IsIn-append f s t (elim (IsIn-append_back f t s i) as (λ _. IsIn f s ⊎ IsIn f t) [ inl in_t ↦ inr in_t | inr in_s ↦ inl in_s ])) r)

IsSameSet-turned : (s t : EdgeList) → IsSameSet (s ++ t) (t ++ s)
IsSameSet-turned s t = record { on = turned s t; back = turned t s }
  where
    turned : (a b : EdgeList) (e : ListedEdge) → IsIn e (a ++ b) → IsIn e (b ++ a)
    turned a b e i = IsIn-append e b a (elim (IsIn-append_back e a b i) as (λ _. IsIn e b ⊎ IsIn e a) [ inl in_a ↦ inr in_a | inr in_b ↦ inl in_b ])

-- The chain of an inside vertex is as it was.
pub chain-inside : (p : ℕ → Bool) (s t : EdgeList) (x : ℕ) → SideBySide p s t → p x ≡ true → chain (s ++ t) x ≡ chain s x
chain-inside p s t x b px =
    rising-same (chain (s ++ t) x) (chain s x) (IsRising-chain (s ++ t) x b.apart) (IsRising-chain s x (AreApart-front s t b.apart))
    (record {
      on = λ f i. (let q = IsIn-leaving_kept (s ++ t) x f i in
          IsIn-leaving s x f (leaving-inside p s t b x px f q.0 q.1) (sym (leaves-inside p s t b x px f) ∙ q.1));
      back = λ f i. (let q = IsIn-leaving_kept s x f i in
          IsIn-leaving (s ++ t) x f (IsIn-append f s t (inl q.0)) (leaves-inside p s t b x px f ∙ q.1));
    })

-- The chain of an outside vertex is as it was.
pub chain-outside : (p : ℕ → Bool) (s t : EdgeList) (x : ℕ) → SideBySide p s t → p x ≡ false → chain (s ++ t) x ≡ chain t x
chain-outside p s t x b px =
    chain-same (s ++ t) (t ++ s) x b.apart (AreApart-turned s t b.apart) (IsSameSet-turned s t)
    ∙ chain-inside (λ y. not (p y)) t s x
    (record {
      inside = λ e i. (ap not (b.outside e i).0, ap not (b.outside e i).1);
      outside = λ e i. (ap not (b.inside e i).0, ap not (b.inside e i).1);
      apart = AreApart-turned s t b.apart;
    })
    (ap not px)
