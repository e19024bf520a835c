-- The persistence of the inner nodes of a tree (Perret and others, Higra, 2019).
use Rattle.std.specs.Prelude.{ℕ, ◌+◌, List, length, map, min, slice_index, if◌then◌else◌}
use Rattle.std.specs.List.{range_with_len}
use Rattle.hg_base.specs.Graph.{WeightedGraph}
use Rattle.tree_laws.specs.Tree.{ParentTree, graph_tree}
use Rattle.watershed_cut.specs.MinimumLabels.{LabelledMinima, minima_of}
use Rattle.extinction.specs.Values.{graph_values}
use Rattle.extinction.specs.Holding.{child, both_hold}
use Rattle.hg_base.specs.declared.kind.Kind.{Kind}

-- the persistence of inner node i: the lesser attribute of its two children where both hold a minimum, else 0
abbrev pub persistence : ParentTree → LabelledMinima → List ℕ → ℕ → ℕ
persistence t m values i =
    if both_hold t m i then min (slice_index values (child t i 0)) (slice_index values (child t i 1)) else 0

-- that of each inner node, in order
abbrev pub persistences : ParentTree → LabelledMinima → List ℕ → List ℕ
persistences t m values = map (λ k. persistence t m values (t.leaves + k)) (range_with_len 0 (length t.makers))

-- the persistences of the inner nodes of a graph's tree
abbrev pub persistences_of : WeightedGraph → Kind → List ℕ
persistences_of g kind = persistences (graph_tree g) (minima_of g) (graph_values g kind)
