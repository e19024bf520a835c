use Rattle.extinction.proofs.PairLemmas.{ArePairsTo}
use Rattle.extinction.proofs.pairs.child_pairs.Given as goal

-- the children among the nodes so far are in their pairs
abbrev pub invariant-loop-j : goal.invariant-loop-j
invariant-loop-j l = ArePairsTo l.tree l.j l.pairs.items
