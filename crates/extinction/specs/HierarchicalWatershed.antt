-- The hierarchical watershed of a graph (Perret and others, Higra, 2019).
use Rattle.std.specs.Prelude.{◌==◌, ℕ, Bool, ◌&&◌, ◌||◌, List, length, map, count_by, nat_lt, slice_index}
use Rattle.std.specs.List.{range_with_len}
use Rattle.hg_base.specs.Graph.{WeightedGraph}
use Rattle.edge_laws.specs.Edges.{ListedEdge, EdgeList, joins}
use Rattle.edge_laws.specs.Rank.{ranked}
use Rattle.tree_laws.specs.Tree.{ParentTree, place, tree_of}
use Rattle.extinction.specs.Persistence.{persistences_of}
use Rattle.hg_base.specs.declared.kind.Kind.{Kind}

-- the j-th comes before the i-th: it has the lesser persistence, or the same and the lesser place
abbrev pub comes_sooner : List ℕ → ℕ → ℕ → Bool
comes_sooner persistences i j =
    nat_lt (slice_index persistences j) (slice_index persistences i)
    || ((slice_index persistences j == slice_index persistences i) && nat_lt j i)

-- how many come before the i-th
abbrev pub persistence_rank : List ℕ → ℕ → ℕ
persistence_rank persistences i = count_by (comes_sooner persistences i) (range_with_len 0 (length persistences))

-- a joining edge of s in the list by persistence: its place there is its rank, the persistence its weight
abbrev pub by_persistence : EdgeList → List ℕ → ListedEdge → ListedEdge
by_persistence s persistences e = record {
  rank = persistence_rank persistences (place s e);
  u = e.u;
  v = e.v;
  weight = slice_index persistences (place s e);
  number = e.number;
}

-- the joining edges by the persistence of the nodes that they make, ties by rank
abbrev pub persistence_edges : EdgeList → List ℕ → EdgeList
persistence_edges s persistences = map (by_persistence s persistences) (joins s)

-- the hierarchical watershed of a graph: the tree of its joining edges by persistence
abbrev pub hierarchical_of : WeightedGraph → Kind → ParentTree
hierarchical_of g kind = tree_of g.n (persistence_edges (ranked g) (persistences_of g kind))
