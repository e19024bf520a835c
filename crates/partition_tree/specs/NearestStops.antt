-- The nearest node on a path at which a pass from the roots down stops.
use Rattle.std.specs.Prelude.{◌≡◌, ℕ, ◌<◌, ◌⊎◌, Bool, true, List, length, get_or}
use Rattle.tree_laws.specs.Tree.{ParentTree, parent, IsAbove}
use Rattle.partition_tree.specs.TreeLists.{nodes}

-- a path stops at node i: the node passes the test, or is a root
abbrev pub StopsAt : ParentTree → (ℕ → Bool) → ℕ → Type 0
StopsAt t stops i = (stops i ≡ true) ⊎ (parent t i ≡ i)

-- j is the nearest node on the path from node i up at which it stops
pub record IsNearestStop (t : ParentTree) (stops : ℕ → Bool) (i j : ℕ) : Type 0 where
  pub above : IsAbove t j i
  pub stop : StopsAt t stops j
  pub nearest : (k : ℕ) → IsAbove t k i → StopsAt t stops k → IsAbove t k j

-- each node has the value that the nearest stop on its path had
pub record AreOfStops (t : ParentTree) (stops : ℕ → Bool) (own values : List ℕ) : Type 0 where
  pub one_each : length values ≡ nodes t
  pub each : (i : ℕ) → i < nodes t → (j : ℕ) × (IsNearestStop t stops i j × (get_or values i 0 ≡ get_or own j 0))

-- what the calls answer for the n nodes is the test
abbrev pub AnswersTest : ℕ → (ℕ → Bool → Type 0) → (ℕ → Bool) → Type 0
AnswersTest n answers stops = (i : ℕ) (b : Bool) → i < n → answers i b → b ≡ stops i
