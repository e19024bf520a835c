use Rattle.extinction.specs.Values.{attribute_values}
use Rattle.extinction.specs.NodeSurvivors.{AreSurvivorsTo}
use Rattle.extinction.proofs.survive.Survivors.of.Given as goal

-- the nodes so far have their survivors
abbrev pub invariant-loop-i : goal.invariant-loop-i
invariant-loop-i l = AreSurvivorsTo l.tree l.minima (attribute_values l.kind l.attributes) l.i l.labels.items
