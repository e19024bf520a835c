-- Graphs of small rows.
use Rattle.std.specs.Prelude.{ℕ, List, map}
use Rattle.hg_base.specs.Graph.{WeightedGraph}
use Rattle.tree_laws.specs.Worked.{edge}

-- the graph with these areas, and these edges: two ends and a weight each
abbrev pub graph_from : ℕ → List ℕ → List (ℕ × ℕ × ℕ) → WeightedGraph
graph_from n areas rows = record { n = n; areas = areas; edges = map edge rows }
