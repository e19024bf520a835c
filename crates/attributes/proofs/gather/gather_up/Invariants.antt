use Rattle.attributes.proofs.GatheredUp.{AreGatheredTo}
use Rattle.attributes.proofs.gather.gather_up.Given as goal

-- the nodes so far have handed their values on
abbrev pub invariant-loop-i : goal.invariant-loop-i
invariant-loop-i l = AreGatheredTo l.operation l.tree l.initial.values l.i l.values
