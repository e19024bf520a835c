-- Edges between places, as parts and plans have them.
use Rattle.std.specs.Prelude.{ℕ, List, map}
use Rattle.edge_laws.specs.Edges.{ListedEdge, EdgeList}
use Rattle.hg_base.specs.declared.graph.PlacedEdge.{PlacedEdge}

-- the rank and the ends of an edge
abbrev pub placed : ListedEdge → PlacedEdge
placed e = record { rank = e.rank; a = e.u; b = e.v }

-- the ranks of a list
abbrev pub ranks : EdgeList → List ℕ
ranks s = map (λ e. e.rank) s
