-- The laws in the words of the definitions: walks in place of tests.
use Rattle.std.proofs.Common.{◌≡◌, ℕ, ◌<◌, true, false, ◌⊎◌, inl, inr, refl, ◌∷◌}
use Rattle.std.specs.Prelude.{◌↔◌, ◌||◌}
use Rattle.std.proofs.lemmas.Bool.{false_from_ne_true, or_left, or_right}
use Rattle.edge_laws.specs.Edges.{ListedEdge, EdgeList, AreApart, Joined, joined, below, next, merged, ShareBelow}
use Rattle.hg_base.specs.Lists.{IsIn}
use Rattle.edge_laws.specs.Splice.{LeadsOut, IsAtEnd}
use Rattle.edge_laws.proofs.Walks.{walk-among, IsSame-joined, Joined-joined}
use Rattle.edge_laws.proofs.Sets.{IsIn-chain, IsIn-chain_kept}
use Rattle.edge_laws.proofs.Fronts.{MeetBelow, joined-meet, meet-joined}
use Rattle.edge_laws.proofs.Leaving.{leaves, xor_cases}
use Rattle.edge_laws.proofs.Splice.{next-elsewhere}
use Rattle.edge_laws.proofs.Merged.{next-merged}
use Rattle.edge_laws.proofs.Drops.{untrue, holds, not-Joined}

pub Joined-back : (s : EdgeList) (x y : ℕ) → Joined s x y → Joined s y x
Joined-back s x y j = Joined-joined s y x ((IsSame-joined s).back x y (holds s x y j))

pub Joined-through : (s : EdgeList) (x y z : ℕ) → Joined s x y → Joined s y z → Joined s x z
Joined-through s x y z j k = Joined-joined s x z ((IsSame-joined s).on x y z (holds s x y j) (holds s y z k))

pub Joined-among : (s t : EdgeList) (x y : ℕ) → ((e : ListedEdge) → IsIn e s → IsIn e t) → Joined s x y → Joined t x y
Joined-among s t x y more j = (j.0, walk-among s t more x j.0 y j.1)

-- what `leaves` tests
pub leaves-from : (s : EdgeList) (x : ℕ) (e : ListedEdge) → LeadsOut s x e → leaves s x e ≡ true
leaves-from s x e (inl p) = rw (holds (below s e.rank) x e.u p.0, untrue (below s e.rank) x e.v p.1) refl
leaves-from s x e (inr p) = rw (holds (below s e.rank) x e.v p.0, untrue (below s e.rank) x e.u p.1) refl

pub LeadsOut-from : (s : EdgeList) (x : ℕ) (e : ListedEdge) → leaves s x e ≡ true → LeadsOut s x e
LeadsOut-from s x e h =
    elim (xor_cases (joined (below s e.rank) x e.u) (joined (below s e.rank) x e.v) h) [
      | inl p ↦ inl (Joined-joined (below s e.rank) x e.u p.0, not-Joined (below s e.rank) x e.v p.1)
      | inr p ↦ inr (Joined-joined (below s e.rank) x e.v p.1, not-Joined (below s e.rank) x e.u p.0)
    ]

-- an edge that doesn't lead out doesn't leave
pub stays-from : (s : EdgeList) (x : ℕ) (e : ListedEdge) → (LeadsOut s x e → ⊥) → leaves s x e ≡ false
stays-from s x e h = false_from_ne_true (leaves s x e) (λ k. h (LeadsOut-from s x e k))

-- the two forms of "the chains share an edge"
pub shared-from : (s : EdgeList) (k x y : ℕ) → (x ≡ y) ⊎ MeetBelow s k x y → (x ≡ y) ⊎ ShareBelow s k x y
shared-from s k x y (inl same) = inl same
shared-from s k x y (inr m) = inr (m.edge, (IsIn-chain s x m.edge m.first, (IsIn-chain s y m.edge m.second, m.low)))

pub met-from : (s : EdgeList) (k x y : ℕ) → (x ≡ y) ⊎ ShareBelow s k x y → (x ≡ y) ⊎ MeetBelow s k x y
met-from s k x y (inl same) = inl same
met-from s k x y (inr m) = inr (record { edge = m.0; first = IsIn-chain_kept s x m.0 m.1.0; second = IsIn-chain_kept s y m.0 m.1.1.0; low = m.1.1.1 })

pub meets-where_joined : (s : EdgeList) (k x y : ℕ) → AreApart s → (Joined (below s k) x y ↔ ((x ≡ y) ⊎ ShareBelow s k x y))
meets-where_joined s k x y h = (
  λ j. shared-from s k x y (joined-meet s h k x y (holds (below s k) x y j)),
  λ m. Joined-joined (below s k) x y (meet-joined s k x y (met-from s k x y m)),
)

pub splice-elsewhere : (e : ListedEdge) (s : EdgeList) (x k : ℕ) → AreApart (e ∷ s) → e.rank < k → (IsAtEnd e s k x → ⊥) → next (e ∷ s) x k ≡ next s x k
splice-elsewhere e s x k h lt out =
    next-elsewhere e s h x k lt
    (untrue (below s k) x e.u (λ j. out (inl j))) (untrue (below s k) x e.v (λ j. out (inr j)))

pub at_end-from : (e : ListedEdge) (s : EdgeList) (k x : ℕ) → IsAtEnd e s k x → (joined (below s k) x e.u || joined (below s k) x e.v) ≡ true
at_end-from e s k x (inl j) = or_left _ _ (holds (below s k) x e.u j)
at_end-from e s k x (inr j) = or_right _ _ (holds (below s k) x e.v j)

pub splice-merging : (e : ListedEdge) (s : EdgeList) (x k : ℕ) → AreApart (e ∷ s) → e.rank < k → (Joined (below s k) e.u e.v → ⊥) → IsAtEnd e s k x →
    next (e ∷ s) x k ≡ merged s (next s e.u k) (next s e.v k)
splice-merging e s x k h lt apart at_end =
    next-merged e s x k (record { apart = h; above = lt; unjoined = untrue (below s k) e.u e.v apart; at_end = at_end-from e s k x at_end })
