-- The list by persistence as it is sorted.
use Rattle.std.specs.Prelude.{◌≡◌, ℕ, ◌+◌, ◌<◌, List, length, map, All, slice_index}
use Rattle.hg_base.specs.Graph.{WeightedGraph, first_end, second_end}
use Rattle.edge_laws.specs.Edges.{EdgeList, IsSameSet}
use Rattle.edge_laws.specs.Rank.{ranked}
use Rattle.tree_laws.specs.Tree.{graph_tree}
use Rattle.tree_laws.specs.Zones.{maker}
use Rattle.partition_tree.specs.declared.list.Ranked.{Ranked}
use Rattle.partition_tree.specs.Ranked.{IsRankedList, edges_of}
use Rattle.extinction.specs.HierarchicalWatershed.{persistence_rank, persistence_edges}

-- at each place stands the one before which so many come
pub record IsPersistenceOrder (persistences order : List ℕ) : Type 0 where
  pub one_each : length order ≡ length persistences
  pub within : All (λ i. i < length persistences) order
  pub each : (k : ℕ) → k < length order → persistence_rank persistences (slice_index order k) ≡ k
  pub back : (i : ℕ) → i < length persistences → slice_index order (persistence_rank persistences i) ≡ i

-- the edge that made the i-th inner node, with its persistence as altitude
abbrev pub ranked_of : WeightedGraph → List ℕ → ℕ → Ranked
ranked_of g persistences i = record {
  u = first_end g (maker (graph_tree g) (g.n + i));
  v = second_end g (maker (graph_tree g) (g.n + i));
  edge = maker (graph_tree g) (g.n + i);
  altitude = slice_index persistences i;
}

-- the same edges as the list by persistence
abbrev pub IsListedBy : WeightedGraph → List ℕ → EdgeList → Type 0
IsListedBy g persistences s = IsSameSet s (persistence_edges (ranked g) persistences)

-- at each place stands the key of the one before which so many come
pub record AreSorted (persistences : List ℕ) (keys : List (ℕ × ℕ)) : Type 0 where
  pub one_each : length keys ≡ length persistences
  pub order : IsPersistenceOrder persistences (map (λ (key : ℕ × ℕ). key.1) keys)

-- a list of which a tree can be made: that of the joining edges by persistence
pub record IsListOf (g : WeightedGraph) (persistences : List ℕ) (list : List Ranked) : Type 0 where
  pub ranked_list : IsRankedList g.n list
  pub edges : IsListedBy g persistences (edges_of list)
