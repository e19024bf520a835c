use Rattle.saliency.proofs.ValueLemmas.{AreValuesTo}
use Rattle.saliency.proofs.values.values.Given as goal

-- the edges so far have their values
abbrev pub invariant-loop-e : goal.invariant-loop-e
invariant-loop-e l = AreValuesTo l.graph l.tree l.e l.values.items
