use Rattle.std.proofs.Common.{ℕ, ◌<◌}
use Rattle.hg_base.specs.Graph.{first_end, second_end}
use Rattle.partition_tree.specs.Paths.{ShareRoot}
use Rattle.saliency.proofs.roots.edges_share_roots.Given as goal

-- the ends of the edges so far have one root
abbrev pub invariant-loop-e : goal.invariant-loop-e
invariant-loop-e l = (j : ℕ) → j < l.e → ShareRoot l.tree (first_end l.graph j) (second_end l.graph j)
