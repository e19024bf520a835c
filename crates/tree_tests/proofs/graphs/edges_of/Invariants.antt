use Rattle.std.proofs.Common.{◌≡◌, All, map, take}
use Rattle.hg_base.specs.Graph.{JoinsTwo}
use Rattle.tree_laws.specs.Worked.{edge}
use Rattle.tree_tests.proofs.graphs.edges_of.Given as goal

-- the rows so far are edges
abbrev pub invariant-loop-u : goal.invariant-loop-u
invariant-loop-u g l = record { made : l.edges.items ≡ map edge (take l.u-index l.rows); ends : All (JoinsTwo l.n) l.edges.items }
