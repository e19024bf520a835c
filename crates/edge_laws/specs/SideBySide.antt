-- Two edge lists over vertices that lie apart, put side by side.
use Rattle.std.specs.Prelude.{◌≡◌, ℕ, Bool, true, false, ◌++◌}
use Rattle.edge_laws.specs.Edges.{ListedEdge, EdgeList, AreApart}
use Rattle.hg_base.specs.Lists.{IsIn}

-- both ends of each edge pass the test
abbrev pub AreInside : (ℕ → Bool) → EdgeList → Type 0
AreInside p s = (e : ListedEdge) → IsIn e s → (p e.u ≡ true) × (p e.v ≡ true)

-- no end of an edge passes the test
abbrev pub AreOutside : (ℕ → Bool) → EdgeList → Type 0
AreOutside p s = (e : ListedEdge) → IsIn e s → (p e.u ≡ false) × (p e.v ≡ false)

-- s is inside, t is outside, and no two edges of both have one rank
pub record SideBySide (p : ℕ → Bool) (s t : EdgeList) : Type 0 where
  pub inside : AreInside p s
  pub outside : AreOutside p t
  pub apart : AreApart (s ++ t)
