-- Which minimum survives in each node of a tree, and by which attribute a minimum dies out.
use Rattle.std.specs.Prelude.{◌==◌, ℕ, zero, suc, Bool, ◌&&◌, ◌||◌, List, [], ◌∷◌, ◌++◌, length, map, find, nat_lt, slice_index, if◌then◌else◌}
use Rattle.std.specs.Option.{option_map_or}
use Rattle.std.specs.List.{range_with_len}
use Rattle.hg_base.specs.Graph.{WeightedGraph}
use Rattle.tree_laws.specs.Tree.{ParentTree, parent, graph_tree}
use Rattle.watershed_cut.specs.MinimumLabels.{LabelledMinima, minima_of}
use Rattle.extinction.specs.Values.{graph_values}
use Rattle.extinction.specs.Holding.{least_held, child, child_holds, both_hold}
use Rattle.hg_base.specs.declared.kind.Kind.{Kind}

-- node a dies beside node b: it has the lesser attribute, or the same and the greater survivor
abbrev pub dies : List ℕ → List ℕ → ℕ → ℕ → Bool
dies values survivors a b =
    nat_lt (slice_index values a) (slice_index values b)
    || ((slice_index values a == slice_index values b) && nat_lt (slice_index survivors b) (slice_index survivors a))

-- of the two children of node i the one that dies
abbrev pub dying : ParentTree → List ℕ → List ℕ → ℕ → ℕ
dying t values survivors i = if dies values survivors (child t i 0) (child t i 1) then child t i 0 else child t i 1

-- and the other one
abbrev pub living : ParentTree → List ℕ → List ℕ → ℕ → ℕ
living t values survivors i = if dies values survivors (child t i 0) (child t i 1) then child t i 1 else child t i 0

-- The survivor of node i from those of the nodes before it: where both children hold a minimum, that of the one that
-- lives; where one does, its survivor; where none does, the least label that the node holds, or 0.
abbrev pub survivor_after : ParentTree → LabelledMinima → List ℕ → List ℕ → ℕ → ℕ
survivor_after t m values before i =
    if both_hold t m i then slice_index before (living t values before i)
    else (if child_holds t m i 0 then slice_index before (child t i 0)
    else (if child_holds t m i 1 then slice_index before (child t i 1) else least_held t m i))

-- a list and one more, made from it
abbrev pub grown : (List ℕ → ℕ → ℕ) → List ℕ → ℕ → List ℕ
grown entry before i = before ++ entry before i ∷ []

-- the first n entries of a table, each of which is made from those before it
abbrev pub table : (List ℕ → ℕ → ℕ) → ℕ → List ℕ
table entry zero = []
table entry (suc i) = grown entry (table entry i) i

-- the survivor of each node
abbrev pub survivors : ParentTree → LabelledMinima → List ℕ → List ℕ
survivors t m values = table (survivor_after t m values) (length t.parents)

-- the label that survives in node i, or 0 where the node holds no minimum
abbrev pub survivor : ParentTree → LabelledMinima → List ℕ → ℕ → ℕ
survivor t m values i = slice_index (survivors t m values) i

-- the label dies at node i, with the child of which it is the survivor
abbrev pub dies_at : ParentTree → LabelledMinima → List ℕ → List ℕ → ℕ → ℕ → Bool
dies_at t m values survivors label i = both_hold t m i && (slice_index survivors (dying t values survivors i) == label)

-- node i is a root, and the label its survivor
abbrev pub lives_at : ParentTree → List ℕ → ℕ → ℕ → Bool
lives_at t survivors label i = (parent t i == i) && (slice_index survivors i == label)

-- the extinction of a label, where the survivors are known
abbrev pub extinction_by : ParentTree → LabelledMinima → List ℕ → List ℕ → ℕ → ℕ
extinction_by t m values survivors label =
    option_map_or (λ i. slice_index values (dying t values survivors i)) (find (dies_at t m values survivors label) (range_with_len 0 (length t.parents)))
    (option_map_or (slice_index values) (find (lives_at t survivors label) (range_with_len 0 (length t.parents))) 0)

-- The extinction of a label: the attribute of the child that dies with it at the least node where one does, and else that
-- of the root whose survivor it is.
abbrev pub extinction : ParentTree → LabelledMinima → List ℕ → ℕ → ℕ
extinction t m values label = extinction_by t m values (survivors t m values) label

-- that of each label
abbrev pub extinctions_by : ParentTree → LabelledMinima → List ℕ → List ℕ → List ℕ
extinctions_by t m values survivors = map (extinction_by t m values survivors) (range_with_len 1 m.count)

abbrev pub extinctions : ParentTree → LabelledMinima → List ℕ → List ℕ
extinctions t m values = extinctions_by t m values (survivors t m values)

-- the extinctions of the minima of a graph, by label
abbrev pub extinctions_of : WeightedGraph → Kind → List ℕ
extinctions_of g kind = extinctions (graph_tree g) (minima_of g) (graph_values g kind)
