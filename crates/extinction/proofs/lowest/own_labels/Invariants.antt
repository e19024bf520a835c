use Rattle.extinction.proofs.OwnLemmas.{AreOwnTo}
use Rattle.extinction.proofs.lowest.own_labels.Given as goal

-- the labels so far are at their lowest nodes
abbrev pub invariant-loop-label : goal.invariant-loop-label
invariant-loop-label l = AreOwnTo l.tree l.lowest.items l.label l.own.items
