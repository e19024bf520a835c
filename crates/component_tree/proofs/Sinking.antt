-- A component sinks to its own level: it is the same at the greatest value of its vertices.
use Rattle.std.proofs.Common.{◌≡◌, ℕ, ◌<◌, ◌≤◌, true, inl, inr, sym, subst, ap, arith, List, [], ◌∷◌}
use Rattle.std.specs.Prelude.{◌&&◌, nat_le}
use Rattle.std.proofs.lemmas.Bool.{le-leb, leb-true, and_parts, and_from}
use Rattle.edge_laws.specs.Edges.{ListedEdge, EdgeList, AreEnds, AreWithin, IsWalk, joined}
use Rattle.hg_base.specs.Lists.{IsIn}
use Rattle.hg_base.proofs.Lists.{IsIn-filter, IsIn-kept}
use Rattle.edge_laws.proofs.Walks.{IsSame-joined, joined-ends, joined-walk, walk-among, Joined-joined}
use Rattle.edge_laws.proofs.Sets.{same_test}
use Rattle.component_tree.specs.declared.side.Side.TheVariants.{Min}
use Rattle.component_tree.specs.Components.{inside}

module _ (f : ℕ → ℕ) (n : ℕ) (s : EdgeList) (w : AreWithin n s) where
  reach : ℕ → ℕ → ℕ → Type 0
  reach k x y = joined (inside Min f s k) x y ≡ true

  inside-parts : (k : ℕ) (e : ListedEdge) → IsIn e (inside Min f s k) → (f e.u ≤ k) × ((f e.v ≤ k) × IsIn e s)
  inside-parts k e i =
      let p = IsIn-kept (λ (x : ListedEdge). nat_le (f x.u) k && nat_le (f x.v) k) e s i in
      let both = and_parts _ _ p.0 in
      (leb-true (f e.u) k both.0, (leb-true (f e.v) k both.1, p.1))

  inside-from : (k : ℕ) (e : ListedEdge) → f e.u ≤ k → f e.v ≤ k → IsIn e s → IsIn e (inside Min f s k)
  inside-from k e u v i = IsIn-filter (λ (x : ListedEdge). nat_le (f x.u) k && nat_le (f x.v) k) e s (and_from _ _ (le-leb (f e.u) k u) (le-leb (f e.v) k v)) i

  -- who hangs together still does at a higher level
  pub reach-higher : (j k x y : ℕ) → j ≤ k → joined (inside Min f s j) x y ≡ true → joined (inside Min f s k) x y ≡ true
  reach-higher j k x y le r =
      let v = Joined-joined (inside Min f s j) x y r in
      joined-walk (inside Min f s k) x v.0 y
      (walk-among (inside Min f s j) (inside Min f s k) (λ e i. (let p = inside-parts j e i in let a : f e.u ≤ j = p.0 in let b : f e.v ≤ j = p.1.0 in inside-from k e (omega arith) (omega arith) p.1.1)) x v.0 y v.1)

  -- the first step of a walk
  step-reach : (k x z : ℕ) (e : ListedEdge) → IsIn e (inside Min f s k) → AreEnds e x z → joined (inside Min f s k) x z ≡ true
  step-reach k x z e i ends = elim ends [
    | inl on ↦ subst (λ (a : ℕ). joined (inside Min f s k) a z ≡ true) on.0 (subst (λ (b : ℕ). joined (inside Min f s k) e.u b ≡ true) on.1 (joined-ends (inside Min f s k) e i))
    | inr back ↦ (IsSame-joined (inside Min f s k)).back z x (subst (λ (a : ℕ). joined (inside Min f s k) a x ≡ true) back.1 (subst (λ (b : ℕ). joined (inside Min f s k) e.u b ≡ true) back.0 (joined-ends (inside Min f s k) e i)))
  ]

  -- all vertices that level k joins to x are in at level l
  AreLow : ℕ → ℕ → ℕ → Type 0
  AreLow k l x = (z : ℕ) → z < n → joined (inside Min f s k) x z ≡ true → f z ≤ l

  sink : (k l x a : ℕ) → AreLow k l x → joined (inside Min f s k) x a ≡ true → (zs : List ℕ) (y : ℕ) → IsWalk (inside Min f s k) a zs y → IsWalk (inside Min f s l) a zs y
  unfolding AreLow
  sink k l x a low r [] y v = v
  sink k l x a low r (z ∷ zs) y v =
      let e : ListedEdge = v.0.0 in
      let p = inside-parts k e v.0.1.0 in
      let same = IsSame-joined (inside Min f s k) in
      let rz : joined (inside Min f s k) x z ≡ true = same.on x a z r (step-reach k a z e v.0.1.0 v.0.1.1) in
      let ends = w e p.1.1 in
      let lows : (f e.u ≤ l) × (f e.v ≤ l) = (elim v.0.1.1 [
        | inl on ↦ (low e.u ends.0 (subst (λ (b : ℕ). joined (inside Min f s k) x b ≡ true) (sym on.0) r), low e.v ends.1 (subst (λ (b : ℕ). joined (inside Min f s k) x b ≡ true) (sym on.1) rz))
        | inr back ↦ (low e.u ends.0 (subst (λ (b : ℕ). joined (inside Min f s k) x b ≡ true) (sym back.1) rz), low e.v ends.1 (subst (λ (b : ℕ). joined (inside Min f s k) x b ≡ true) (sym back.0) r))
      ]) in
      ((e, (inside-from l e lows.0 lows.1 p.1.1, v.0.1.1)), sink k l x z low rz zs y v.1)

  -- so level l joins them too
  pub sunk : (k l x : ℕ) → l ≤ k → ((z : ℕ) → z < n → joined (inside Min f s k) x z ≡ true → f z ≤ l) → (y : ℕ) → joined (inside Min f s k) x y ≡ joined (inside Min f s l) x y
  unfolding AreLow
  sunk k l x le low y =
      same_test _ _
      (λ r. (let v = Joined-joined (inside Min f s k) x y r in
      joined-walk (inside Min f s l) x v.0 y (sink k l x x low ((IsSame-joined (inside Min f s k)).self x) v.0 y v.1)))
      (λ r. reach-higher l k x y le r)

  -- a vertex that a level joins to one that is in is in
  pub reach-in : (k x y : ℕ) → f x ≤ k → joined (inside Min f s k) x y ≡ true → f y ≤ k
  reach-in k x y low r = let v = Joined-joined (inside Min f s k) y x ((IsSame-joined (inside Min f s k)).back x y r) in go y v.0 v.1
    where
      go : (y : ℕ) (zs : List ℕ) → IsWalk (inside Min f s k) y zs x → f y ≤ k
      go y [] e = let v : f y ≡ f x = ap f e in omega (arith, v, low)
      go y (z ∷ zs) v =
          let e : ListedEdge = v.0.0 in
          let p = inside-parts k e v.0.1.0 in
          elim v.0.1.1 [
            | inl on ↦ subst (λ (b : ℕ). f b ≤ k) on.0 p.0
            | inr back ↦ subst (λ (b : ℕ). f b ≤ k) back.0 p.1.0
          ]

-- vertices that a level joins have the same joined to them
pub reach-row : (s : EdgeList) (x z y : ℕ) → joined s x z ≡ true → joined s x y ≡ joined s z y
reach-row s x z y r =
    let same = IsSame-joined s in
    same_test _ _ (λ a. same.on z x y (same.back x z r) a) (λ a. same.on x z y r a)
