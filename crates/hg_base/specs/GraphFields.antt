-- What the fields of a graph stand for.
use Rattle.std.specs.Prelude.{ℕ, List, replicate, Some, None, Option, Vec}
use Rattle.std.specs.declared.alloc.Global.{Global}
use Rattle.hg_base.specs.Graph.{WeightedGraph}
use Rattle.hg_base.specs.Graph.{IsGraph, AreLight}
use Rattle.hg_base.specs.declared.graph.Graph.TheInside.{Inside}

-- the areas that were handed in, or 1 for each vertex
abbrev pub areas_of : ℕ → Option (Vec ℕ Global) → List ℕ
areas_of n None = replicate n 1
areas_of n (Some areas) = areas.items

abbrev pub graph_in : Inside → WeightedGraph
graph_in g = record { n = g.n; areas = areas_of g.n g.areas; edges = g.edges.items }

-- what the fields of a graph keep to: they are a graph's, and each weight has 32 bits
pub record AreOfGraph (g : Inside) : Type 0 where
  pub graph : IsGraph (graph_in g)
  pub light : AreLight g.edges.items
