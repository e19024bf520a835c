-- The order of a graph's edges, as contracts see it.
use Rattle.std.specs.Prelude.{ℕ, slice_get}
use Rattle.std.specs.Option.{option_map_or}
use Rattle.hg_base.specs.Graph.{WeightedGraph}
use Rattle.edge_laws.specs.Edges.{ListedEdge, EdgeList}
use Rattle.edge_laws.specs.Rank.{ranked}
use Rattle.hg_base.specs.declared.graph.Edge.{Edge}
use Rattle.hg_base.specs.declared.graph.RankedEdge.{RankedEdge}

-- a number of vertices, and the edges in order of rank, each with its number
pub record EdgeOrder : Type 0 where
  pub n : ℕ
  pub edges : EdgeList

-- the order of all edges of a graph
abbrev pub order_of : WeightedGraph → EdgeOrder
order_of g = record { n = g.n; edges = ranked g }

-- the number of the edge at rank k, or 0 where there is no such rank
abbrev pub number_at_rank : EdgeOrder → ℕ → ℕ
number_at_rank o k = option_map_or (λ x. x.number) (slice_get o.edges k) 0

-- a ranked edge with its number
abbrev pub with_number : RankedEdge → ℕ → ListedEdge
with_number x e = record { rank = x.rank; u = x.u; v = x.v; weight = x.w; number = e }

-- a ranked edge as it stands in its graph
abbrev pub without_rank : RankedEdge → Edge
without_rank x = record { u = x.u; v = x.v; w = x.w }
