-- Paths up a tree: roots, and nodes above two others.
use Rattle.std.specs.Prelude.{◌≡◌, ℕ, zero, suc, ◌≤◌, ◌==◌, if◌then◌else◌}
use Rattle.tree_laws.specs.Tree.{ParentTree, parent, IsAbove}

-- no link leads down
abbrev pub Rises : ParentTree → Type 0
Rises t = (i : ℕ) → i ≤ parent t i

-- the first node on the path from x up that is i or greater, or the root where the path ends below i
abbrev pub stop : ParentTree → ℕ → ℕ → ℕ
stop t x zero = x
stop t x (suc i) = if stop t x i == i then parent t i else stop t x i

-- the path from x up ends in r
pub record IsRootOf (t : ParentTree) (x r : ℕ) : Type 0 where
  pub above : IsAbove t r x
  pub root : parent t r ≡ r

-- the paths from a and b up end in one root
abbrev pub ShareRoot : ParentTree → ℕ → ℕ → Type 0
ShareRoot t a b = (r : ℕ) × (IsRootOf t a r × IsRootOf t b r)

-- node j is above both a and b
abbrev pub IsCommon : ParentTree → ℕ → ℕ → ℕ → Type 0
IsCommon t a b j = IsAbove t j a × IsAbove t j b
