-- Small graphs for worked examples.
use Rattle.std.specs.Prelude.{ℕ, List, map}
use Rattle.hg_base.specs.declared.graph.Edge.{Edge}
use Rattle.hg_base.specs.Graph.{with_unit_areas}
use Rattle.tree_laws.specs.Tree.{ParentTree, graph_tree}

abbrev pub edge : (ℕ × ℕ × ℕ) → Edge
edge t = record { u = t.0; v = t.1; w = t.2 }

-- the tree of the graph with n vertices of area 1 and these edges: two ends and a weight each
abbrev pub tree_over : ℕ → List (ℕ × ℕ × ℕ) → ParentTree
tree_over n edges = graph_tree (with_unit_areas n (map edge edges))
