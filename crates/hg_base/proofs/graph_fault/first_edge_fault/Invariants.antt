use Rattle.std.proofs.Common.{ℕ, ◌<◌, get_or}
use Rattle.hg_base.specs.declared.graph.Edge.{Edge}
use Rattle.hg_base.specs.Graph.{JoinsTwo}
use Rattle.hg_base.proofs.graph_fault.first_edge_fault.Given as goal

-- each edge so far joins two vertices
abbrev pub invariant-loop-number : goal.invariant-loop-number
invariant-loop-number l = (k : ℕ) (d : Edge) → k < l.number → JoinsTwo l.n (get_or l.edges k d)
