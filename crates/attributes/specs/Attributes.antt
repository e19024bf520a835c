-- The attributes of the nodes of a tree over a graph's vertices (Perret and others, Higra, 2019).
use Rattle.std.specs.Prelude.{ℕ, ◌==◌, ◌*◌, ◌-◌, Bool, ◌||◌, List, [], ◌∷◌, length, map, filter, min, slice_get, unwrap_or}
use Rattle.std.specs.List.{range_with_len, fold, sum_by}
use Rattle.hg_base.specs.declared.graph.Edge.{Edge}
use Rattle.hg_base.specs.Graph.{WeightedGraph}
use Rattle.tree_laws.specs.Tree.{ParentTree, parent, altitude, graph_tree}
use Rattle.tree_laws.specs.Levels.{is_above}

-- x is an end of the edge
abbrev pub is_end_of : ℕ → Edge → Bool
is_end_of x e = (e.u == x) || (e.v == x)

-- the weights of the edges at vertex x
abbrev pub weights_at : WeightedGraph → ℕ → List ℕ
weights_at g x = map (λ e. e.w) (filter (is_end_of x) g.edges)

-- the least number of a list, or 0 where it is empty
abbrev pub least : List ℕ → ℕ
least [] = 0
least (k ∷ ks) = fold min k ks

-- the floor of vertex x: the least weight of an edge at it, or 0 where it has none
abbrev pub floor : WeightedGraph → ℕ → ℕ
floor g x = least (weights_at g x)

-- the area of vertex x
abbrev pub area : WeightedGraph → ℕ → ℕ
area g x = unwrap_or (slice_get g.areas x) 0

-- the area of these vertices
abbrev pub area_of : WeightedGraph → List ℕ → ℕ
area_of g xs = sum_by (area g) xs

-- their volume under altitude p: for each vertex the area times the depth of its floor below p
abbrev pub volume_under : WeightedGraph → ℕ → List ℕ → ℕ
volume_under g p xs = sum_by (λ x. area g x * (p - floor g x)) xs

-- their dynamics under altitude p: how far the lowest floor is below it
abbrev pub dynamics_under : WeightedGraph → ℕ → List ℕ → ℕ
dynamics_under g p xs = p - least (map (floor g) xs)

-- the leaves below node i, rising
abbrev pub vertices_below : ParentTree → ℕ → List ℕ
vertices_below t i = filter (is_above t i) (range_with_len 0 t.leaves)

-- the altitude under which the attributes of node i are taken: its parent's, a root being its own parent
abbrev pub altitude_over : ParentTree → ℕ → ℕ
altitude_over t i = altitude t (parent t i)

-- attributes as contracts see them: the three lists, by number of node
pub record AttributeLists : Type 0 where
  pub areas : List ℕ
  pub volumes : List ℕ
  pub dynamics : List ℕ

-- the numbers of the nodes
abbrev pub node_numbers : ParentTree → List ℕ
node_numbers t = range_with_len 0 (length t.parents)

-- the attributes of the nodes of a tree whose leaves are the graph's vertices
abbrev pub attributes_in : WeightedGraph → ParentTree → AttributeLists
attributes_in g t = record {
  areas = map (λ i. area_of g (vertices_below t i)) (node_numbers t);
  volumes = map (λ i. volume_under g (altitude_over t i) (vertices_below t i)) (node_numbers t);
  dynamics = map (λ i. dynamics_under g (altitude_over t i) (vertices_below t i)) (node_numbers t);
}

-- the attributes of the nodes of the graph's own tree
abbrev pub attributes_of : WeightedGraph → AttributeLists
attributes_of g = attributes_in g (graph_tree g)
