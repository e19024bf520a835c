-- Values of nodes, put together up a tree.
use Rattle.std.specs.Prelude.{◌≡◌, ℕ, ◌+◌, ◌<◌, ◌^◌, List, length, map, filter, min, get_or, slice_index}
use Rattle.std.specs.List.{range_with_len, fold}
use Rattle.tree_laws.specs.Tree.{ParentTree}
use Rattle.tree_laws.specs.Levels.{is_above}
use Rattle.attributes.specs.declared.gather.Operation.{Operation}
use Rattle.attributes.specs.declared.gather.Operation.TheVariants as operations

-- two values put together
abbrev pub combined : Operation → ℕ → ℕ → ℕ
combined operations.Sum a b = a + b
combined operations.Least a b = min a b

-- the value that changes no number of 64 bits
abbrev pub neutral : Operation → ℕ
neutral operations.Sum = 0
neutral operations.Least = 18446744073709551615

-- the values at these numbers put together
abbrev pub gathered : Operation → (ℕ → ℕ) → List ℕ → ℕ
gathered op f xs = fold (combined op) (neutral op) (map f xs)

-- each leaf has a value, and all of them put together fit 64 bits
pub record CanGather (op : Operation) (t : ParentTree) (leaves : List ℕ) : Type 0 where
  pub one_each : length leaves ≡ t.leaves
  pub fits : gathered op (λ x. slice_index leaves x) (range_with_len 0 t.leaves) < 2 ^ 64

-- each node has the values of the nodes at and below it put together
pub record AreGathered (op : Operation) (t : ParentTree) (values sums : List ℕ) : Type 0 where
  pub one_each : length sums ≡ length t.parents
  pub each : (i : ℕ) → i < length t.parents → get_or sums i 0 ≡ gathered op (λ j. get_or values j 0) (filter (is_above t i) (range_with_len 0 (length t.parents)))

-- each node has the values of the leaves below it put together
pub record AreOfLeaves (op : Operation) (t : ParentTree) (values sums : List ℕ) : Type 0 where
  pub one_each : length sums ≡ length t.parents
  pub each : (i : ℕ) → i < length t.parents → get_or sums i 0 ≡ gathered op (λ x. get_or values x 0) (filter (is_above t i) (range_with_len 0 t.leaves))
