-- The test `joined` and walks say the same.
use Rattle.std.proofs.Common.{◌≡◌, ℕ, true, inl, inr, refl, sym, subst, List, [], ◌∷◌}
use Rattle.std.specs.Prelude.{◌↔◌}
use Rattle.std.proofs.lemmas.Bool.{eqb-true, eq-eqb}
use Rattle.edge_laws.specs.Edges.{ListedEdge, EdgeList, AreEnds, IsWalk, Joined, joined}
use Rattle.hg_base.specs.Lists.{IsIn}
use Rattle.edge_laws.proofs.Link.{IsSame, link-old, link_cases, link-over, IsSame-link}

-- each vertex is itself
IsSame-nothing : IsSame (joined [])
IsSame-nothing = record {
  self = λ x. eq-eqb x x refl;
  back = λ x y h. eq-eqb y x (sym (eqb-true x y h));
  on = λ x y z h k. subst (λ (w : ℕ). joined [] x w ≡ true) (eqb-true y z k) h;
}

-- the test of `Joined` is an equivalence
pub IsSame-joined : (s : EdgeList) → IsSame (joined s)
IsSame-joined [] = IsSame-nothing
IsSame-joined (e ∷ s) = IsSame-link (joined s) (IsSame-joined s) e.u e.v

-- the ends of an edge of the list are joined
pub joined-ends : (s : EdgeList) (e : ListedEdge) → IsIn e s → joined s e.u e.v ≡ true
joined-ends [] e i = absurd i
joined-ends (f ∷ s) e (inl same) =
    subst (λ (g : ListedEdge). joined (f ∷ s) g.u g.v ≡ true) same
    (link-over (joined s) f.u f.v f.u f.v ((IsSame-joined s).self f.u) ((IsSame-joined s).self f.v))
joined-ends (f ∷ s) e (inr later) = link-old (joined s) f.u f.v e.u e.v (joined-ends s e later)

-- a step of a walk joins
joined-step : (s : EdgeList) (e : ListedEdge) (x y : ℕ) → IsIn e s → AreEnds e x y → joined s x y ≡ true
joined-step s e x y i (inl ends) =
    subst (λ (a : ℕ). joined s a y ≡ true) ends.0 (subst (λ (b : ℕ). joined s e.u b ≡ true) ends.1 (joined-ends s e i))
joined-step s e x y i (inr ends) =
    (IsSame-joined s).back y x
    (subst (λ (a : ℕ). joined s a x ≡ true) ends.1 (subst (λ (b : ℕ). joined s e.u b ≡ true) ends.0 (joined-ends s e i)))

-- where a walk leads, the test says so
pub joined-walk : (s : EdgeList) (x : ℕ) (zs : List ℕ) (y : ℕ) → IsWalk s x zs y → joined s x y ≡ true
joined-walk s x [] y w = subst (λ (a : ℕ). joined s x a ≡ true) w ((IsSame-joined s).self x)
joined-walk s x (z ∷ zs) y w =
    (IsSame-joined s).on x z y (joined-step s w.0.0 x z w.0.1.0 w.0.1.1) (joined-walk s z zs y w.1)

-- a walk stays a walk among more edges
pub walk-among : (s t : EdgeList) → ((e : ListedEdge) → IsIn e s → IsIn e t) → (x : ℕ) (zs : List ℕ) (y : ℕ) → IsWalk s x zs y → IsWalk t x zs y
walk-among s t more x [] y w = w
walk-among s t more x (z ∷ zs) y w = ((w.0.0, (more w.0.0 w.0.1.0, w.0.1.1)), walk-among s t more z zs y w.1)

-- two walks, one after the other
pub Joined-on : (s : EdgeList) (x : ℕ) (zs : List ℕ) (y z : ℕ) → IsWalk s x zs y → Joined s y z → Joined s x z
Joined-on s x [] y z w j = subst (λ (a : ℕ). Joined s a z) (sym w) j
Joined-on s x (a ∷ zs) y z w j =
    let rest = Joined-on s a zs y z w.1 j in (a ∷ rest.0, (w.0, rest.1))

-- from x to one end of f, over it, and on from the other end
Joined-over : (f : ListedEdge) (s : EdgeList) (x a b y : ℕ) → AreEnds f a b → Joined s x a → Joined s b y → Joined (f ∷ s) x y
Joined-over f s x a b y ends to on =
    Joined-on (f ∷ s) x to.0 a y (walk-among s (f ∷ s) (λ _ i. inr i) x to.0 a to.1)
    (b ∷ on.0, ((f, (inl refl, ends)), walk-among s (f ∷ s) (λ _ i. inr i) b on.0 y on.1))

-- where the test says so, a walk leads
pub Joined-joined : (s : EdgeList) (x y : ℕ) → joined s x y ≡ true → Joined s x y
Joined-joined [] x y h = ([], eqb-true x y h)
Joined-joined (f ∷ s) x y h =
    elim (link_cases (joined s) f.u f.v x y h) [
      | inl old ↦ (let w = Joined-joined s x y old in (w.0, walk-among s (f ∷ s) (λ _ i. inr i) x w.0 y w.1))
      | inr new ↦ elim new [
        | inl p ↦ Joined-over f s x f.u f.v y (inl (refl, refl)) (Joined-joined s x f.u p.0) (Joined-joined s f.v y p.1)
        | inr p ↦ Joined-over f s x f.v f.u y (inr (refl, refl)) (Joined-joined s x f.v p.0) (Joined-joined s f.u y p.1)
      ]
    ]

-- the test is true exactly where a walk leads
pub joined_is_Joined : (s : EdgeList) (x y : ℕ) → (joined s x y ≡ true) ↔ Joined s x y
joined_is_Joined s x y = (Joined-joined s x y, λ j. joined-walk s x j.0 y j.1)
