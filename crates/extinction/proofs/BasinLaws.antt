-- What the edges between the classes of some labels join, beside what the edges themselves join.
use Rattle.std.proofs.Common.{◌≡◌, ℕ, ◌<◌, ◌≤◌, true, inl, inr, refl, sym, ◌∙◌, subst, arith, List, [], ◌∷◌}
use Rattle.std.specs.Prelude.{◌↔◌}
use Rattle.std.proofs.lemmas.Bool.Decides.{eqb_tells}
use Rattle.hg_base.specs.Lists.{IsIn}
use Rattle.edge_laws.specs.Edges.{ListedEdge, EdgeList, IsWalk, Joined, joined}
use Rattle.edge_laws.specs.Saliency.{at_most, IsLeastJoining}
use Rattle.edge_laws.proofs.Drops.{holds}
use Rattle.edge_laws.proofs.Link.{IsSame}
use Rattle.edge_laws.proofs.Sets.{joined-among}
use Rattle.edge_laws.proofs.Walks.{IsSame-joined, Joined-joined, joined-ends}
use Rattle.watershed_cut.proofs.JoinedByKind.{joined_into}
use Rattle.watershed_cut.proofs.MinimumByWeight.{at_most-to, at_most-from}
use Rattle.extinction.specs.Basins.{AreGrounded, IsRelabelled, AreBetween}

-- vertices of one label are joined by the edges of weight at most any k
pub one-joined : (n : ℕ) (l : ℕ → ℕ) (s : EdgeList) → AreGrounded n l s → (k x y : ℕ) → x < n → y < n → l x ≡ l y → joined (at_most s k) x y ≡ true
one-joined n l s a k x y hx hy same =
    joined-among (at_most s 0) (at_most s k) x y (λ e i. let p = at_most-to s 0 e i in at_most-from s k e p.0 (let w : e.weight ≤ 0 = p.1 in omega arith))
    (holds (at_most s 0) x y ((a.level x y hx hy).1 same))

-- the labels of the ends of an edge of weight at most k are joined by the edges between labels
ends-on : (l : ℕ → ℕ) (s q : EdgeList) → AreBetween l s q → (k : ℕ) (e : ListedEdge) → IsIn e (at_most s k) → joined (at_most q k) (l e.u) (l e.v) ≡ true
ends-on l s q b k e i = elim (eqb_tells (l e.u) (l e.v)) [
  | inl same ↦ subst (λ (z : ℕ). joined (at_most q k) (l e.u) z ≡ true) same.1 ((IsSame-joined (at_most q k)).self (l e.u))
  | inr other ↦
      let p = at_most-to s k e i in
      let f = b.on e p.0 other.1 in
      let r : IsRelabelled l e f.0 = f.1.1 in
      let light : e.weight ≤ k = p.1 in
      let own = joined-ends (at_most q k) f.0 (at_most-from q k f.0 f.1.0 (let w = r.weight in omega arith)) in
      subst (λ (z : ℕ). joined (at_most q k) z (l e.v) ≡ true) r.first (subst (λ (z : ℕ). joined (at_most q k) f.0.u z ≡ true) r.second own)
]

-- what the edges of weight at most k join, those between labels join by their labels
pub labels-joined : (l : ℕ → ℕ) (s q : EdgeList) → AreBetween l s q → (k x y : ℕ) → joined (at_most s k) x y ≡ true → joined (at_most q k) (l x) (l y) ≡ true
labels-joined l s q b k x y j = joined_into (at_most s k) (λ x' y'. joined (at_most q k) (l x') (l y')) by_label (ends-on l s q b k) x y j
  where
    by_label : IsSame (λ x' y'. joined (at_most q k) (l x') (l y'))
    by_label = record {
      self = λ x'. (IsSame-joined (at_most q k)).self (l x');
      back = λ x' y' h. (IsSame-joined (at_most q k)).back (l x') (l y') h;
      on = λ x' y' z h h'. (IsSame-joined (at_most q k)).on (l x') (l y') (l z) h h';
    }

-- and back, along a walk from the label of x to that of y
walk-lifted : (n : ℕ) (l : ℕ → ℕ) (s q : EdgeList) → AreGrounded n l s → AreBetween l s q → (k x y a b : ℕ) (zs : List ℕ) → x < n → y < n → l x ≡ a → l y ≡ b → IsWalk (at_most q k) a zs b → joined (at_most s k) x y ≡ true
walk-lifted n l s q g b k x y a c [] hx hy la lc w = one-joined n l s g k x y hx hy (la ∙ w ∙ sym lc)
walk-lifted n l s q g b k x y a c (z ∷ zs) hx hy la lc w =
    let f = w.0.0 in
    let p = at_most-to q k f w.0.1.0 in
    let e = b.back f p.0 in
    let r : IsRelabelled l e.0 f = e.1.1 in
    let light : f.weight ≤ k = p.1 in
    let inside = g.within e.0 e.1.0 in
    let own = joined-ends (at_most s k) e.0 (at_most-from s k e.0 e.1.0 (let v = r.weight in omega arith)) in
    let t = IsSame-joined (at_most s k) in
    elim w.0.1.1 [
      | inl ends ↦
          t.on x e.0.u y (one-joined n l s g k x e.0.u hx inside.0 (la ∙ sym ends.0 ∙ r.first))
          (t.on e.0.u e.0.v y own (walk-lifted n l s q g b k e.0.v y z c zs inside.1 hy (sym r.second ∙ ends.1) lc w.1))
      | inr ends ↦
          t.on x e.0.v y (one-joined n l s g k x e.0.v hx inside.1 (la ∙ sym ends.0 ∙ r.second))
          (t.on e.0.v e.0.u y (t.back e.0.u e.0.v own) (walk-lifted n l s q g b k e.0.u y z c zs inside.0 hy (sym r.first ∙ ends.1) lc w.1))
    ]

-- The edges of weight at most k join two vertices exactly where those between labels join their labels.
pub joined-between : (n : ℕ) (l : ℕ → ℕ) (s q : EdgeList) → AreGrounded n l s → AreBetween l s q → (k x y : ℕ) → x < n → y < n → Joined (at_most s k) x y ↔ Joined (at_most q k) (l x) (l y)
joined-between n l s q g b k x y hx hy = (
  λ j. Joined-joined (at_most q k) (l x) (l y) (labels-joined l s q b k x y (holds (at_most s k) x y j)),
  λ j. Joined-joined (at_most s k) x y (walk-lifted n l s q g b k x y (l x) (l y) j.0 hx hy refl refl j.1),
)

-- so the least weight that joins two labels joins their vertices
pub least-between : (n : ℕ) (l : ℕ → ℕ) (s q : EdgeList) → AreGrounded n l s → AreBetween l s q → (x y k : ℕ) → x < n → y < n → IsLeastJoining q (l x) (l y) k → IsLeastJoining s x y k
least-between n l s q g b x y k hx hy least = record {
  joins = (joined-between n l s q g b k x y hx hy).1 least.joins;
  least = λ j joins. least.least j ((joined-between n l s q g b j x y hx hy).0 joins);
}

-- and vertices of one label are joined at 0
pub least-inside : (n : ℕ) (l : ℕ → ℕ) (s : EdgeList) → AreGrounded n l s → (x y : ℕ) → x < n → y < n → l x ≡ l y → IsLeastJoining s x y 0
least-inside n l s g x y hx hy same = record { joins = (g.level x y hx hy).1 same; least = λ j joins. omega arith }

-- there is one least weight
pub least-one : (s : EdgeList) (x y j k : ℕ) → IsLeastJoining s x y j → IsLeastJoining s x y k → j ≡ k
least-one s x y j k p q = let a = p.least k q.joins in let b = q.least j p.joins in omega arith
