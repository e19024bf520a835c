-- The last node up to a level on each path, and the leaves' keys by it.
use Rattle.std.specs.Prelude.{◌≡◌, ℕ, ◌<◌, ◌≤◌, Bool, List, length, nat_lt, get_or, Option, Some, None}
use Rattle.tree_laws.specs.Tree.{ParentTree, parent, altitude}
use Rattle.tree_laws.specs.Levels.{IsTop}

-- the parent of node i is above the level
abbrev pub is_last_to : ParentTree → ℕ → ℕ → Bool
is_last_to t level i = nat_lt level (altitude t (parent t i))

-- for each node up to the level the last such node on its path; all are nodes
pub record AreTops (t : ParentTree) (level : ℕ) (tops : List ℕ) : Type 0 where
  pub one_each : length tops ≡ length t.parents
  pub nodes : (i : ℕ) → i < length t.parents → get_or tops i 0 < length t.parents
  pub each : (i : ℕ) → i < length t.parents → altitude t i ≤ level → IsTop t level i (get_or tops i 0)

-- each of the first n has its value as a key
pub record AreFirstKeys (n : ℕ) (values : List ℕ) (keys : List (Option ℕ)) : Type 0 where
  pub one_each : length keys ≡ n
  pub each : (x : ℕ) → x < n → get_or keys x None ≡ Some (get_or values x 0)
