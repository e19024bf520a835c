-- Lists that join alike: their chains have the same ranks, and more edges in both leave them so.
use Rattle.std.proofs.Common.{◌≡◌, ℕ, suc, ◌<◌, ◌≤◌, true, false, ◌⊎◌, inl, inr, refl, sym, ◌∙◌, subst, ap, arith, List, [], ◌∷◌, ◌++◌}
use Rattle.std.proofs.lemmas.Bool.{false_from_ne_true, true≢false}
use Rattle.hg_base.specs.Lists.{IsIn}
use Rattle.hg_base.proofs.Lists.{IsIn-append, IsIn-append_back}
use Rattle.edge_laws.specs.Edges.{ListedEdge, EdgeList, AreApart, AreEnds, IsWalk, Joined, joined, below, chain, ShareBelow}
use Rattle.edge_laws.specs.Placed.{ranks}
use Rattle.edge_laws.specs.Alike.{JoinAlike}
use Rattle.edge_laws.proofs.Link.{link_cases}
use Rattle.edge_laws.proofs.Walks.{IsSame-joined, joined-ends, Joined-joined}
use Rattle.edge_laws.proofs.Members.{IsRising, IsIn-below, IsIn-below_kept}
use Rattle.edge_laws.proofs.Sets.{same_test, joined_below-more, IsRising-chain, IsIn-chain_kept}
use Rattle.edge_laws.proofs.Fronts.{apart-one, rank_found, joined-step_with, joined-step_without}
use Rattle.edge_laws.proofs.Leaving.{xor_cases}
use Rattle.edge_laws.proofs.Next.{IsIn-leaving, IsIn-leaving_kept}
use Rattle.edge_laws.proofs.Drops.{holds}
use Rattle.edge_laws.proofs.LawForms.{Joined-back, Joined-through, Joined-among, meets-where_joined}

-- t has an edge of the rank of each edge of s
abbrev HasRanksOf : EdgeList → EdgeList → Type 0
HasRanksOf t s = (e : ListedEdge) → IsIn e s → (f : ListedEdge) × (IsIn f t × (f.rank ≡ e.rank))

-- no edge of a rising list has a lower rank than the first
first-lowest : (f : ListedEdge) (t : EdgeList) → IsRising (f ∷ t) → (g : ListedEdge) → IsIn g (f ∷ t) → f.rank ≤ g.rank
first-lowest f t h g (inl same) = let r : f.rank ≡ g.rank = ap (λ (x : ListedEdge). x.rank) same in omega arith
first-lowest f t h g (inr later) = let r : f.rank < g.rank = h.0 g later in omega arith

-- behind first edges of one rank, each rank of s is still one of t
rest-has : (e f : ListedEdge) (s t : EdgeList) → e.rank ≡ f.rank → IsRising (e ∷ s) → HasRanksOf (f ∷ t) (e ∷ s) → HasRanksOf t s
rest-has e f s t level h all g i = go (all g (inr i)).1.0
  where
    go : IsIn (all g (inr i)).0 (f ∷ t) → (k : ListedEdge) × (IsIn k t × (k.rank ≡ g.rank))
    go (inl same) = absurd (let low : e.rank < g.rank = h.0 g i in
        let r : f.rank ≡ g.rank = ap (λ (x : ListedEdge). x.rank) same ∙ (all g (inr i)).1.1 in omega arith)
    go (inr later) = ((all g (inr i)).0, (later, (all g (inr i)).1.1))

-- rising lists that have each other's ranks have the same list of ranks
rising-ranks : (s t : EdgeList) → IsRising s → IsRising t → HasRanksOf t s → HasRanksOf s t → ranks s ≡ ranks t
rising-ranks [] [] hs ht on back = refl
rising-ranks [] (f ∷ t) hs ht on back = absurd (back f (inl refl)).1.0
rising-ranks (e ∷ s) [] hs ht on back = absurd (on e (inl refl)).1.0
rising-ranks (e ∷ s) (f ∷ t) hs ht on back =
    let p = on e (inl refl) in
    let q = back f (inl refl) in
    let up : f.rank ≤ p.0.rank = first-lowest f t ht p.0 p.1.0 in
    let down : e.rank ≤ q.0.rank = first-lowest e s hs q.0 q.1.0 in
    let level : e.rank ≡ f.rank = omega (arith, p.1.1, q.1.1) in
    let rest : ranks s ≡ ranks t = rising-ranks s t hs.1 ht.1 (rest-has e f s t level hs on) (rest-has f e t s (sym level) ht back) in
    rw (level, rest) refl

-- the rank of an edge is among the ranks of its list
IsIn-rank : (e : ListedEdge) (s : EdgeList) → IsIn e s → IsIn e.rank (ranks s)
IsIn-rank e [] i = i
IsIn-rank e (g ∷ s) (inl same) = inl (ap (λ (x : ListedEdge). x.rank) same)
IsIn-rank e (g ∷ s) (inr later) = inr (IsIn-rank e s later)

-- each of the ranks is that of an edge
rank-edge : (r : ℕ) (s : EdgeList) → IsIn r (ranks s) → (e : ListedEdge) × (IsIn e s × (e.rank ≡ r))
rank-edge r [] i = absurd i
rank-edge r (g ∷ s) (inl same) = (g, (inl refl, same))
rank-edge r (g ∷ s) (inr later) = let p = rank-edge r s later in (p.0, (inr p.1.0, p.1.1))

-- lists of which the ranks are one list have each other's
ranks-had : (s t : EdgeList) → ranks s ≡ ranks t → HasRanksOf t s
ranks-had s t same e i = rank-edge e.rank t (subst (λ (l : List ℕ). IsIn e.rank l) same (IsIn-rank e s i))

-- each joins alike with the other
pub JoinAlike-back : (s t : EdgeList) → JoinAlike s t → JoinAlike t s
JoinAlike-back s t h k x y = ((h k x y).1, (h k x y).0)

-- the tests of both lists answer the same
pub joined-alike : (s t : EdgeList) → JoinAlike s t → (k x y : ℕ) → joined (below s k) x y ≡ joined (below t k) x y
joined-alike s t h k x y = same_test (joined (below s k) x y) (joined (below t k) x y)
    (λ j. holds (below t k) x y ((h k x y).0 (Joined-joined (below s k) x y j)))
    (λ j. holds (below s k) x y ((h k x y).1 (Joined-joined (below t k) x y j)))

-- the edges of rank r are the first to join x and y
record JoinedAt (s : EdgeList) (r x y : ℕ) : Type 0 where
  before : joined (below s r) x y ≡ false
  behind : joined (below s (suc r)) x y ≡ true

-- an edge of the chain of x is the first to join x to one of its ends
chain-joins : (s : EdgeList) (x : ℕ) (e : ListedEdge) → IsIn e (chain s x) → (y : ℕ) × JoinedAt s e.rank x y
chain-joins s x e i =
    let p = IsIn-leaving_kept s x e i in
    let same = IsSame-joined (below s (suc e.rank)) in
    let ends : joined (below s (suc e.rank)) e.u e.v ≡ true = joined-ends (below s (suc e.rank)) e (IsIn-below e s (suc e.rank) p.0 (omega arith)) in
    elim (xor_cases (joined (below s e.rank) x e.u) (joined (below s e.rank) x e.v) p.1) [
      | inl first ↦ (
        e.v,
        record {
          before = first.1;
          behind = same.on x e.u e.v (joined_below-more s e.rank (suc e.rank) x e.u (omega arith) first.0) ends;
        },
      )
      | inr second ↦ (
        e.u,
        record {
          before = second.0;
          behind = same.on x e.v e.u (joined_below-more s e.rank (suc e.rank) x e.v (omega arith) second.1) (same.back e.u e.v ends);
        },
      )
    ]

-- the edge that first joins x and y is on the chain of x
joins-chain_at : (s : EdgeList) → AreApart s → (f : ListedEdge) → IsIn f s → (x y : ℕ) → JoinedAt s f.rank x y → IsIn f (chain s x)
joins-chain_at s h f i x y j = IsIn-leaving s x f i
    (elim (link_cases (joined (below s f.rank)) f.u f.v x y (sym (joined-step_with s h f i x y) ∙ j.behind)) [
      | inl old ↦ absurd (true≢false (sym old ∙ j.before))
      | inr over ↦ elim over [
        | inl p ↦ rw (p.0, apart_from f.v p.1) refl
        | inr p ↦ rw (apart_from f.u p.1, p.0) refl
      ]
    ])
  where
    apart_from : (z : ℕ) → joined (below s f.rank) z y ≡ true → joined (below s f.rank) x z ≡ false
    apart_from z on = false_from_ne_true (joined (below s f.rank) x z)
        (λ k. true≢false (sym ((IsSame-joined (below s f.rank)).on x z y k on) ∙ j.before))

-- where the edges of rank r are the first to join x and y, the chain of x has an edge of rank r
joins-chain : (s : EdgeList) → AreApart s → (r x y : ℕ) → JoinedAt s r x y → (f : ListedEdge) × (IsIn f (chain s x) × (f.rank ≡ r))
joins-chain s h r x y j =
    elim (rank_found s r) [
      | inl found ↦ (
        found.0,
        (
          joins-chain_at s h found.0 found.1.0 x y (subst (λ (n : ℕ). JoinedAt s n x y) (sym found.1.1) j),
          found.1.1,
        ),
      )
      | inr never ↦ absurd (true≢false (sym j.behind ∙ joined-step_without s r never x y ∙ j.before))
    ]

-- lists that join alike first join x and y at one rank
JoinedAt-alike : (s t : EdgeList) → JoinAlike s t → (r x y : ℕ) → JoinedAt s r x y → JoinedAt t r x y
JoinedAt-alike s t h r x y j = record {
  before = sym (joined-alike s t h r x y) ∙ j.before;
  behind = sym (joined-alike s t h (suc r) x y) ∙ j.behind;
}

-- so the chain of x in t has the ranks of the chain of x in s
chain-has : (s t : EdgeList) → AreApart t → JoinAlike s t → (x : ℕ) → HasRanksOf (chain t x) (chain s x)
chain-has s t ht h x e i =
    let p = chain-joins s x e i in joins-chain t ht e.rank x p.0 (JoinedAt-alike s t h e.rank x p.0 p.1)

-- Of lists that join alike the chains have the same ranks.
pub chain-ranks : (s t : EdgeList) (x : ℕ) → AreApart s → AreApart t → JoinAlike s t → ranks (chain s x) ≡ ranks (chain t x)
chain-ranks s t x hs ht h =
    rising-ranks (chain s x) (chain t x) (IsRising-chain s x hs) (IsRising-chain t x ht)
    (chain-has s t ht h x) (chain-has t s hs (JoinAlike-back s t h) x)

-- where the chains have the same ranks and those of x and y share an edge in s, they share one of that rank in t
shared-alike : (s t : EdgeList) → AreApart t → (k x y : ℕ) → ranks (chain s x) ≡ ranks (chain t x) → ranks (chain s y) ≡ ranks (chain t y) →
    ShareBelow s k x y → ShareBelow t k x y
shared-alike s t ht k x y of_x of_y m =
    let low : m.0.rank < k = m.1.1.1 in
    let p = ranks-had (chain s x) (chain t x) of_x m.0 m.1.0 in
    let q = ranks-had (chain s y) (chain t y) of_y m.0 m.1.1.0 in
    let one : q.0 ≡ p.0 = apart-one t ht q.0 p.0 (IsIn-chain_kept t y q.0 q.1.0).member (IsIn-chain_kept t x p.0 p.1.0).member (q.1.1 ∙ sym p.1.1) in
    (p.0, (p.1.0, (subst (λ (e : ListedEdge). IsIn e (chain t y)) one q.1.0, omega (arith, p.1.1))))

-- so t joins whom s does
joins-by_ranks : (s t : EdgeList) → AreApart s → AreApart t → ((x : ℕ) → ranks (chain s x) ≡ ranks (chain t x)) →
    (k x y : ℕ) → Joined (below s k) x y → Joined (below t k) x y
joins-by_ranks s t hs ht same k x y j = (meets-where_joined t k x y ht).1
    (elim ((meets-where_joined s k x y hs).0 j) as (λ _. (x ≡ y) ⊎ ShareBelow t k x y) [
      | inl one ↦ inl one
      | inr m ↦ inr (shared-alike s t ht k x y (same x) (same y) m)
    ])

-- Lists of which the chains have the same ranks join alike.
pub alike-by_ranks : (s t : EdgeList) → AreApart s → AreApart t → ((x : ℕ) → ranks (chain s x) ≡ ranks (chain t x)) → JoinAlike s t
alike-by_ranks s t hs ht same k x y = (joins-by_ranks s t hs ht same k x y, joins-by_ranks t s ht hs (λ z. sym (same z)) k x y)

-- a step over an edge of s ++ b joins in t ++ b
step-more : (s t b : EdgeList) → JoinAlike s t → (k : ℕ) (e : ListedEdge) → IsIn e (below (s ++ b) k) → Joined (below (t ++ b) k) e.u e.v
step-more s t b h k e i =
    let p = IsIn-below_kept e (s ++ b) k i in
    elim (IsIn-append_back e s b p.0) [
      | inl of_s ↦ Joined-among (below t k) (below (t ++ b) k) e.u e.v
          (λ f j. (let q = IsIn-below_kept f t k j in IsIn-below f (t ++ b) k (IsIn-append f t b (inl q.0)) q.1))
          ((h k e.u e.v).0 (Joined-joined (below s k) e.u e.v (joined-ends (below s k) e (IsIn-below e s k of_s p.1))))
      | inr of_b ↦ Joined-joined (below (t ++ b) k) e.u e.v
          (joined-ends (below (t ++ b) k) e (IsIn-below e (t ++ b) k (IsIn-append e t b (inr of_b)) p.1))
    ]

-- one step of a walk, either way round
step-joins : (c : EdgeList) (e : ListedEdge) (x z : ℕ) → AreEnds e x z → Joined c e.u e.v → Joined c x z
step-joins c e x z (inl p) j = subst (λ (a : ℕ). Joined c a z) p.0 (subst (λ (b : ℕ). Joined c e.u b) p.1 j)
step-joins c e x z (inr p) j =
    subst (λ (a : ℕ). Joined c a z) p.0 (subst (λ (b : ℕ). Joined c e.v b) p.1 (Joined-back c e.u e.v j))

-- a walk whose steps c joins leads where c joins
walk-joins : (a c : EdgeList) → ((e : ListedEdge) → IsIn e a → Joined c e.u e.v) → (x : ℕ) (zs : List ℕ) (y : ℕ) → IsWalk a x zs y → Joined c x y
walk-joins a c steps x [] y w = ([], w)
walk-joins a c steps x (z ∷ zs) y w =
    Joined-through c x z y (step-joins c w.0.0 x z w.0.1.1 (steps w.0.0 w.0.1.0)) (walk-joins a c steps z zs y w.1)

-- so t ++ b joins whom s ++ b does
joins-more : (s t b : EdgeList) → JoinAlike s t → (k x y : ℕ) → Joined (below (s ++ b) k) x y → Joined (below (t ++ b) k) x y
joins-more s t b h k x y j = walk-joins (below (s ++ b) k) (below (t ++ b) k) (step-more s t b h k) x j.0 y j.1

-- Lists that join alike do so with more edges in both.
pub alike-more : (s t b : EdgeList) → JoinAlike s t → JoinAlike (s ++ b) (t ++ b)
alike-more s t b h k x y = (joins-more s t b h k x y, joins-more t s b (JoinAlike-back s t h) k x y)
