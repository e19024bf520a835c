-- The root of each node.
use Rattle.std.specs.Prelude.{◌≡◌, ℕ, ◌<◌, List, length, get_or}
use Rattle.tree_laws.specs.Tree.{ParentTree}
use Rattle.partition_tree.specs.Paths.{IsRootOf}

-- each node has the root of its path
pub record AreRoots (t : ParentTree) (roots : List ℕ) : Type 0 where
  pub one_each : length roots ≡ length t.parents
  pub each : (i : ℕ) → i < length t.parents → IsRootOf t i (get_or roots i 0)
