use Rattle.extinction.specs.Values.{attribute_values}
use Rattle.extinction.specs.NodeSurvivors.{AreDeathsFrom}
use Rattle.extinction.proofs.deaths.note_deaths.Given as goal

-- the deaths at the nodes from i on are noted
abbrev pub invariant-loop-i : goal.invariant-loop-i
invariant-loop-i l = AreDeathsFrom l.tree l.minima (attribute_values l.kind l.attributes) l.survivors.labels.items l.i l.values
