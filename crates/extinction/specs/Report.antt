-- The bytes of the report of a hierarchical watershed.
use Rattle.std.specs.Prelude.{ℕ, ◌+◌, List, [], ◌∷◌, ◌++◌, codes, length, slice_index}
use Rattle.std.specs.List.{range_with_len, flat_map}
use Rattle.hg_base.specs.Text.{line, headed_line}
use Rattle.tree_laws.specs.Tree.{ParentTree}
use Rattle.partition_tree.specs.Report.{tree_report}

-- the line of the label that comes after k others: the label and its extinction
abbrev pub extinction_line : List ℕ → ℕ → List ℕ
extinction_line extinctions k = line ((k + 1) ∷ slice_index extinctions k ∷ [])

-- the line of the extinctions, and then one for each label
abbrev pub extinction_lines : List ℕ → List ℕ
extinction_lines extinctions =
    headed_line (codes "extinctions") (length extinctions ∷ []) ++ flat_map (extinction_line extinctions) (range_with_len 0 (length extinctions))

-- the report of the tree, and the extinctions
abbrev pub hierarchical_report : ParentTree → List ℕ → List ℕ
hierarchical_report tree extinctions = tree_report tree ++ extinction_lines extinctions
