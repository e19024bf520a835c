-- Tests that say which vertices belong together, and what joining two of them does.
use Rattle.std.proofs.Common.{◌≡◌, ℕ, Bool, true, ◌⊎◌, arith}
use Rattle.std.proofs.lemmas.Bool.{or_cases, and_parts, or_left, or_right, and_from}
use Rattle.edge_laws.specs.Edges.{link}

-- r is an equivalence
pub record IsSame (r : ℕ → ℕ → Bool) : Type 0 where
  pub self : (x : ℕ) → r x x ≡ true
  pub back : (x y : ℕ) → r x y ≡ true → r y x ≡ true
  pub on : (x y z : ℕ) → r x y ≡ true → r y z ≡ true → r x z ≡ true

-- who was joined before still is
pub link-old : (r : ℕ → ℕ → Bool) (u v x y : ℕ) → r x y ≡ true → link r u v x y ≡ true
link-old r u v x y h = or_left _ _ h

-- the three ways to be joined by a link
pub link_cases : (r : ℕ → ℕ → Bool) (u v x y : ℕ) → link r u v x y ≡ true →
    (r x y ≡ true) ⊎ (((r x u ≡ true) × (r v y ≡ true)) ⊎ ((r x v ≡ true) × (r u y ≡ true)))
link_cases r u v x y h = grind (arith, or_cases, and_parts)

-- a link from x to u, over to v and on to y
pub link-over : (r : ℕ → ℕ → Bool) (u v x y : ℕ) → r x u ≡ true → r v y ≡ true → link r u v x y ≡ true
link-over r u v x y h k = or_right _ _ (or_left _ _ (and_from _ _ h k))

-- the same from v over to u
pub link-back : (r : ℕ → ℕ → Bool) (u v x y : ℕ) → r x v ≡ true → r u y ≡ true → link r u v x y ≡ true
link-back r u v x y h k = or_right _ _ (or_right _ _ (and_from _ _ h k))

-- a link of an equivalence is symmetric
pub link-symmetric : (r : ℕ → ℕ → Bool) → IsSame r → (u v x y : ℕ) → link r u v x y ≡ true → link r u v y x ≡ true
link-symmetric r e u v x y h = grind (arith, link_cases r u v x y h, link-old, link-over, link-back, e.back)

-- a link of an equivalence is transitive
pub link-transitive : (r : ℕ → ℕ → Bool) → IsSame r → (u v x y z : ℕ) → link r u v x y ≡ true → link r u v y z ≡ true → link r u v x z ≡ true
link-transitive r e u v x y z h k = grind (arith, link_cases r u v x y h, link_cases r u v y z k, link-old, link-over, link-back, e.back, e.on)

-- a link of an equivalence is an equivalence
pub IsSame-link : (r : ℕ → ℕ → Bool) → IsSame r → (u v : ℕ) → IsSame (link r u v)
IsSame-link r e u v = record {
  self = λ x. link-old r u v x x (e.self x);
  back = link-symmetric r e u v;
  on = link-transitive r e u v;
}
