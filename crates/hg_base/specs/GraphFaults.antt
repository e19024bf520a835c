-- What keeps a number of vertices and a list of edges from being a graph.
use Rattle.std.specs.Prelude.{◌≡◌, ℕ, ◌<◌, ◌≤◌, ◌⊎◌, List, ◌++◌, length, take, All, slice_get, Some, codes, decimal}
use Rattle.hg_base.specs.Graph.{JoinsTwo}
use Rattle.hg_base.specs.declared.graph.Edge.{Edge}
use Rattle.hg_base.specs.declared.graph_fault.GraphFault.{GraphFault}
use Rattle.hg_base.specs.declared.graph_fault.GraphFault.TheVariants.{NoVertex, TooManyVertices, TooManyEdges, EndOutOfRange, Loop}

-- there are neither too few nor too many vertices
pub record AreVertices (n : ℕ) : Type 0 where
  pub some_vertex : 1 ≤ n
  pub vertices : n ≤ 1048576

-- the end of edge x that is no vertex: the first end, or else the second one
pub record IsOutside (n : ℕ) (x : Edge) (end : ℕ) : Type 0 where
  pub outside : n ≤ end
  pub first : (x.u ≡ end) ⊎ ((x.u < n) × (x.v ≡ end))

-- both ends of edge x are this vertex
pub record IsLoop (n : ℕ) (x : Edge) (end : ℕ) : Type 0 where
  pub u : x.u ≡ end
  pub v : x.v ≡ end
  pub vertex : end < n

-- edge number e, which is x, is the first that doesn't join two vertices; there are neither too many vertices nor edges
pub record IsFirstBad (n : ℕ) (edges : List Edge) (e : ℕ) (x : Edge) : Type 0 where
  pub vertices : AreVertices n
  pub few_edges : length edges ≤ 4194304
  pub before : All (JoinsTwo n) (take e edges)
  pub at : slice_get edges e ≡ Some x

-- what is wrong with an edge x of number e
abbrev pub IsEdgeFault : ℕ → ℕ → Edge → GraphFault → Type 0
IsEdgeFault n e x (EndOutOfRange edge end) = (edge ≡ e) × IsOutside n x end
IsEdgeFault n e x (Loop edge end) = (edge ≡ e) × IsLoop n x end
IsEdgeFault n e x NoVertex = ⊥
IsEdgeFault n e x (TooManyVertices vertices) = ⊥
IsEdgeFault n e x (TooManyEdges edges) = ⊥

-- what is wrong first: with the number of vertices, with that of edges, or with an edge
abbrev pub IsGraphFault : ℕ → List Edge → GraphFault → Type 0
IsGraphFault n edges NoVertex = n ≡ 0
IsGraphFault n edges (TooManyVertices vertices) = (vertices ≡ n) × (1048576 < n)
IsGraphFault n edges (TooManyEdges count) = (count ≡ length edges) × (4194304 < length edges) × AreVertices n
IsGraphFault n edges (EndOutOfRange e end) = (x : Edge) × (IsFirstBad n edges e x × IsOutside n x end)
IsGraphFault n edges (Loop e end) = (x : Edge) × (IsFirstBad n edges e x × IsLoop n x end)

-- a fault as text
abbrev pub graph_fault_words : GraphFault → List ℕ
graph_fault_words NoVertex = codes "there is no vertex"
graph_fault_words (TooManyVertices vertices) = decimal vertices ++ codes " vertices are more than 1048576"
graph_fault_words (TooManyEdges edges) = decimal edges ++ codes " edges are more than 4194304"
graph_fault_words (EndOutOfRange e end) = codes "edge " ++ (decimal e ++ (codes ": its end " ++ (decimal end ++ codes " is no vertex")))
graph_fault_words (Loop e end) = codes "edge " ++ (decimal e ++ (codes ": vertex " ++ (decimal end ++ codes " is both its ends")))
