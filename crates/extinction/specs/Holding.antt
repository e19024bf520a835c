-- Which minima a node of a tree holds.
use Rattle.std.specs.Prelude.{◌≡◌, ◌==◌, ℕ, ◌<◌, Bool, not, ◌&&◌, ◌||◌, length, find, unwrap_or, nat_lt, slice_index}
use Rattle.std.specs.List.{range_with_len, list_any, list_all}
use Rattle.hg_base.specs.Counting.{count_below}
use Rattle.hg_base.specs.Labels.{IsLabel}
use Rattle.tree_laws.specs.Tree.{ParentTree, IsAbove}
use Rattle.tree_laws.specs.Levels.{is_above}
use Rattle.partition_tree.specs.Children.{is_child, child_count}
use Rattle.watershed_cut.specs.MinimumLabels.{LabelledMinima}

-- node i holds the minimum with this label: all its vertices are below the node
pub record HoldsMinimum (t : ParentTree) (m : LabelledMinima) (i label : ℕ) : Type 0 where
  pub minimum : IsLabel m.count label
  pub all : (x : ℕ) → x < t.leaves → slice_index m.vertices x ≡ label → IsAbove t i x

-- the test of `HoldsMinimum`, of a label from 1 to the number of minima
abbrev pub holds_minimum : ParentTree → LabelledMinima → ℕ → ℕ → Bool
holds_minimum t m i label = list_all (λ x. not (slice_index m.vertices x == label) || is_above t i x) (range_with_len 0 t.leaves)

-- node i holds a minimum
abbrev pub holds : ParentTree → LabelledMinima → ℕ → Bool
holds t m i = list_any (holds_minimum t m i) (range_with_len 1 m.count)

-- the least label of a minimum that node i holds, or 0 where it holds none
abbrev pub least_held : ParentTree → LabelledMinima → ℕ → ℕ
least_held t m i = unwrap_or (find (holds_minimum t m i) (range_with_len 1 m.count)) 0

-- the child of node i before which k others come, or i where there is no such child
abbrev pub child : ParentTree → ℕ → ℕ → ℕ
child t i k = unwrap_or (find (λ j. is_child t i j && (count_below (is_child t i) j == k)) (range_with_len 0 (length t.parents))) i

-- there is such a child, and it holds a minimum
abbrev pub child_holds : ParentTree → LabelledMinima → ℕ → ℕ → Bool
child_holds t m i k = nat_lt k (child_count t i) && holds t m (child t i k)

-- both children of node i hold a minimum
abbrev pub both_hold : ParentTree → LabelledMinima → ℕ → Bool
both_hold t m i = child_holds t m i 0 && child_holds t m i 1
