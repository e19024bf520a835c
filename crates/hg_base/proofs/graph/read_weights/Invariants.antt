use Rattle.std.proofs.Common.{ℕ, ◌<◌, ◌^◌, get_or}
use Rattle.hg_base.specs.declared.graph.Edge.{Edge}
use Rattle.hg_base.proofs.graph.read_weights.Given as goal

-- the edges so far weigh numbers of 32 bits
abbrev pub invariant-loop-e : goal.invariant-loop-e
invariant-loop-e l = (k : ℕ) (d : Edge) → k < l.e → (get_or l.edges k d).w < 2 ^ 32
