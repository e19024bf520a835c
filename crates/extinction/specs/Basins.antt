-- Basins of a watershed cut, the edges between them, and the altitudes of the hierarchical watershed over them.
use Rattle.std.specs.Prelude.{◌≡◌, ◌≢◌, ◌↔◌, ◌==◌, ℕ, ◌+◌, ◌-◌, ◌<◌, ◌^◌, Bool, not, ◌&&◌, List, length, map, filter, get_or}
use Rattle.std.specs.List.{range_with_len}
use Rattle.hg_base.specs.Graph.{WeightedGraph, first_end, second_end}
use Rattle.hg_base.specs.Labels.{Labelling}
use Rattle.hg_base.specs.Lists.{IsIn}
use Rattle.edge_laws.specs.Edges.{ListedEdge, EdgeList, AreApart, AreWithin, Joined}
use Rattle.edge_laws.specs.Rank.{ranked}
use Rattle.edge_laws.specs.Saliency.{at_most, AreByWeight}
use Rattle.tree_laws.specs.Tree.{ParentTree, graph_tree, tree_of}
use Rattle.tree_laws.specs.Zones.{maker}
use Rattle.partition_tree.specs.declared.list.Ranked.{Ranked}
use Rattle.partition_tree.specs.Paths.{ShareRoot}
use Rattle.partition_tree.specs.Ranked.{IsRankedList, edges_of}
use Rattle.saliency.specs.Values.{IsLowestAltitude}
use Rattle.extinction.specs.HierarchicalWatershed.{persistence_edges}
use Rattle.extinction.specs.Persistence.{persistences_of}
use Rattle.hg_base.specs.declared.kind.Kind.{Kind}

-- the edges of s lie between the vertices below n, and those of weight 0 join exactly the vertices of one label
pub record AreGrounded (n : ℕ) (l : ℕ → ℕ) (s : EdgeList) : Type 0 where
  pub within : AreWithin n s
  pub level : (x y : ℕ) → x < n → y < n → Joined (at_most s 0) x y ↔ (l x ≡ l y)

-- f leads from the label of an end of e to that of the other, with the weight of e
pub record IsRelabelled (l : ℕ → ℕ) (e f : ListedEdge) : Type 0 where
  pub first : f.u ≡ l e.u
  pub second : f.v ≡ l e.v
  pub weight : f.weight ≡ e.weight

-- The edges of q are those of s between labels: each edge of s whose ends have different labels is one of them, and each of
-- them is one of s.
pub record AreBetween (l : ℕ → ℕ) (s q : EdgeList) : Type 0 where
  pub on : (e : ListedEdge) → IsIn e s → l e.u ≢ l e.v → (f : ListedEdge) × (IsIn f q × IsRelabelled l e f)
  pub back : (f : ListedEdge) → IsIn f q → (e : ListedEdge) × (IsIn e s × IsRelabelled l e f)

-- the basin of vertex x, from 0 on: its label less 1
abbrev pub basin : Labelling → ℕ → ℕ
basin l x = get_or l.labels x 0 - 1

-- the edge that made the i-th inner node of a graph's tree, between basins, with its persistence as altitude
abbrev pub basin_edge : WeightedGraph → Labelling → List ℕ → ℕ → Ranked
basin_edge g l persistences i = record {
  u = basin l (first_end g (maker (graph_tree g) (g.n + i)));
  v = basin l (second_end g (maker (graph_tree g) (g.n + i)));
  edge = maker (graph_tree g) (g.n + i);
  altitude = get_or persistences i 0;
}

-- its persistence isn't 0, and its ends are in different basins
abbrev pub is_between : WeightedGraph → Labelling → List ℕ → ℕ → Bool
is_between g l persistences i = not (get_or persistences i 0 == 0) && not ((basin_edge g l persistences i).u == (basin_edge g l persistences i).v)

-- those of the first k inner nodes for which this is so
abbrev pub basin_edges : WeightedGraph → Labelling → List ℕ → ℕ → List Ranked
basin_edges g l persistences k = map (basin_edge g l persistences) (filter (is_between g l persistences) (range_with_len 0 k))

-- a list of which a tree can be made: the edges between basins of the list by persistence
pub record IsBasinList (g : WeightedGraph) (l : Labelling) (persistences : List ℕ) (list : List Ranked) : Type 0 where
  pub ranked_list : IsRankedList l.count list
  pub between : AreBetween (basin l) (persistence_edges (ranked g) persistences) (edges_of list)

-- its tree
pub record IsBasinTree (g : WeightedGraph) (kind : Kind) (l : Labelling) (t : ParentTree) : Type 0 where
  pub edges : EdgeList
  pub tree : t ≡ tree_of l.count edges
  pub apart : AreApart edges
  pub within : AreWithin l.count edges
  pub by_weight : AreByWeight edges
  pub between : AreBetween (basin l) (persistence_edges (ranked g) (persistences_of g kind)) edges

-- the basins of the ends of each edge are below one root of a tree over the basins
abbrev pub BasinsShareRoots : WeightedGraph → Labelling → ParentTree → Type 0
BasinsShareRoots g l t = (e : ℕ) → e < length g.edges → ShareRoot t (basin l (first_end g e)) (basin l (second_end g e))

-- v is 0 where one basin has both x and y, and else the altitude of the lowest common ancestor of their basins
pub record IsBasinAltitude (l : Labelling) (t : ParentTree) (x y v : ℕ) : Type 0 where
  pub inside : basin l x ≡ basin l y → v ≡ 0
  pub between : basin l x ≢ basin l y → IsLowestAltitude t (basin l x) (basin l y) v

-- so for the ends of each edge
pub record AreBasinAltitudes (g : WeightedGraph) (l : Labelling) (t : ParentTree) (values : List ℕ) : Type 0 where
  pub one_each : length values ≡ length g.edges
  pub each : (e : ℕ) → e < length g.edges → IsBasinAltitude l t (first_end g e) (second_end g e) (get_or values e 0)

-- the edge has such a value for the tree, whose ancestors these are
pub record CanBasinValue (g : WeightedGraph) (l : Labelling) (t of_tree : ParentTree) (e : ℕ) : Type 0 where
  pub ancestors : of_tree ≡ t
  pub labels : length l.labels ≡ g.n
  pub leaves : t.leaves ≡ l.count
  pub roots : BasinsShareRoots g l t
  pub within : e < length g.edges
  pub few : length g.edges < 2 ^ 32
