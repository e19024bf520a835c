-- The bytes of a component tree's report.
use Rattle.std.specs.Prelude.{ℕ, List, [], ◌∷◌, ◌++◌, codes, length}
use Rattle.std.specs.List.{range_with_len, flat_map}
use Rattle.hg_base.specs.Text.{line, headed_line}
use Rattle.component_tree.specs.declared.side.Side.{Side}
use Rattle.component_tree.specs.declared.side.Side.TheVariants.{Min, Max}
use Rattle.component_tree.specs.Components.{ComponentLists, parent_of, level_of}

-- the word of the report
abbrev pub tree_word : Side → List ℕ
tree_word Min = codes "mintree"
tree_word Max = codes "maxtree"

-- a node's line: its number, its parent and its level
abbrev pub component_line : ComponentLists → ℕ → List ℕ
component_line tree i = line (i ∷ parent_of tree i ∷ level_of tree i ∷ [])

-- the line of the tree, and then one for each node
abbrev pub components_report : Side → ComponentLists → List ℕ
components_report side tree =
    headed_line (tree_word side) (length tree.parents ∷ tree.leaves ∷ []) ++ flat_map (component_line tree) (range_with_len 0 (length tree.parents))
