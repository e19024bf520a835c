-- The labels of a graph's minima.
use Rattle.std.specs.Prelude.{ℕ, List, map}
use Rattle.std.specs.List.{range_with_len}
use Rattle.hg_base.specs.Graph.{WeightedGraph}
use Rattle.edge_laws.specs.Edges.{ListedEdge}
use Rattle.edge_laws.specs.Rank.{numbers, rank, listed, ranked}
use Rattle.watershed_cut.specs.MinimumTests.{minimum_count, vertex_label, edge_label}

-- minima as contracts see them: how many there are, and the labels of the vertices and of the edges, by number
pub record LabelledMinima : Type 0 where
  pub count : ℕ
  pub vertices : List ℕ
  pub edges : List ℕ

-- edge number e
abbrev pub numbered : WeightedGraph → ℕ → ListedEdge
numbered g e = listed g (rank g e) e

-- the minima of a graph
abbrev pub minima_of : WeightedGraph → LabelledMinima
minima_of g = record {
  count = minimum_count g.n (ranked g);
  vertices = map (vertex_label g.n (ranked g)) (range_with_len 0 g.n);
  edges = map (λ e. edge_label g.n (ranked g) (numbered g e)) (numbers g);
}
