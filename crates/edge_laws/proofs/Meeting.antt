-- Where two chains meet first, and the least weight that joins.
use Rattle.std.proofs.Common.{◌≡◌, ℕ, suc, ◌<◌, ◌≤◌, true, inl, inr, refl, sym, ◌∙◌, ap, arith}
use Rattle.std.specs.Prelude.{nat_le}
use Rattle.std.proofs.lemmas.Bool.{cases_order, le-leb, leb-true}
use Rattle.edge_laws.specs.Edges.{ListedEdge, EdgeList, AreApart, Joined, joined, below}
use Rattle.hg_base.specs.Lists.{IsIn}
use Rattle.edge_laws.specs.Saliency.{at_most, AreByWeight, IsLeastJoining, MeetFirst}
use Rattle.edge_laws.proofs.Walks.{IsSame-joined, joined-walk, Joined-joined}
use Rattle.edge_laws.proofs.Members.{IsIn-below, IsIn-below_kept}
use Rattle.hg_base.proofs.Lists.{IsIn-filter, IsIn-kept}
use Rattle.edge_laws.proofs.Sets.{joined-among, joined_below-more, IsOnChain}
use Rattle.edge_laws.proofs.Fronts.{apart-one}
use Rattle.edge_laws.proofs.Leaving.{leaves, joins_touching}
use Rattle.edge_laws.proofs.Merged.{joined-to_end}

-- an edge of a chain leaves the component
pub chain-leaving : (s : EdgeList) (x : ℕ) (e : ListedEdge) → IsOnChain s x e → leaves s x e ≡ true
chain-leaving s x e c =
    sym (joins_touching (joined (below s e.rank)) (IsSame-joined (below s e.rank)) x e.u e.v)
    ∙ rw (c.joining, c.touching) refl

-- an edge by which two vertices leave their components joins them
pub joined-by : (s : EdgeList) (a b : ℕ) (e : ListedEdge) (k : ℕ) → IsIn e s → leaves s a e ≡ true → leaves s b e ≡ true → e.rank < k → joined (below s k) a b ≡ true
joined-by s a b e k i ha hb lt =
    let same = IsSame-joined (below s (suc e.rank)) in
    joined_below-more s (suc e.rank) k a b lt
    (same.on a e.u b (joined-to_end s e a i ha) (same.back b e.u (joined-to_end s e b i hb)))

-- an edge up to the first that joins a and b weighs no more than it
pub up_to-weight : (s : EdgeList) → AreApart s → AreByWeight s → (z : ListedEdge) → IsIn z s → (f : ListedEdge) → IsIn f s → f.rank < suc z.rank → f.weight ≤ z.weight
up_to-weight s h by z i f j lt =
    elim (cases_order f.rank z.rank) [
      | inl level ↦ (let same : f ≡ z = apart-one s h f z j i level in let q : f.weight ≡ z.weight = ap (λ (x : ListedEdge). x.weight) same in omega arith)
      | inr other ↦ elim other [ inl low ↦ by f z j i low | inr high ↦ absurd (omega arith) ]
    ]

-- an edge that weighs less than z comes before it
lighter-before : (s : EdgeList) → AreApart s → AreByWeight s → (z : ListedEdge) → IsIn z s → (f : ListedEdge) → IsIn f s → f.weight < z.weight → f.rank < z.rank
lighter-before s h by z i f j lt =
    elim (cases_order f.rank z.rank) [
      | inl level ↦ absurd (let same : f ≡ z = apart-one s h f z j i level in let q : f.weight ≡ z.weight = ap (λ (x : ListedEdge). x.weight) same in omega arith)
      | inr other ↦ elim other [ inl low ↦ low | inr high ↦ absurd (let q : z.weight ≤ f.weight = by z f i j high in omega arith) ]
    ]

-- The weight of the first edge to join a and b is the least k such that the edges of weight at most k join them.
pub meeting-weight : (s : EdgeList) → AreApart s → AreByWeight s → (a b : ℕ) (z : ListedEdge) → MeetFirst s a b z → IsLeastJoining s a b z.weight
meeting-weight s h by a b z m = record { joins = enough; least = needed }
  where
    enough : Joined (at_most s z.weight) a b
    enough =
        let j = m.behind (suc z.rank) (omega arith) in
        Joined-joined (at_most s z.weight) a b
        (joined-among (below s (suc z.rank)) (at_most s z.weight) a b
        (λ f i. (let p = IsIn-below_kept f s (suc z.rank) i in
        IsIn-filter (λ e. nat_le e.weight z.weight) f s (le-leb f.weight z.weight (up_to-weight s h by z m.member f p.0 p.1)) p.0))
        (joined-walk (below s (suc z.rank)) a j.0 b j.1))

    fewer : (k : ℕ) → k < z.weight → joined (at_most s k) a b ≡ true → joined (below s z.rank) a b ≡ true
    fewer k lt j =
        joined-among (at_most s k) (below s z.rank) a b
        (λ f i. (let p = IsIn-kept (λ (e : ListedEdge). nat_le e.weight k) f s i in
        let w : f.weight ≤ k = leb-true f.weight k p.0 in
        IsIn-below f s z.rank p.1 (lighter-before s h by z m.member f p.1 (omega arith))))
        j

    needed : (k : ℕ) → Joined (at_most s k) a b → z.weight ≤ k
    needed k j =
        elim (cases_order z.weight k) [
          | inl level ↦ omega arith
          | inr other ↦ elim other [
            | inl low ↦ omega arith
            | inr high ↦ absurd (let before : z.rank < z.rank = m.before z.rank (Joined-joined (below s z.rank) a b (fewer k high (joined-walk (at_most s k) a j.0 b j.1))) in omega arith)
          ]
        ]
