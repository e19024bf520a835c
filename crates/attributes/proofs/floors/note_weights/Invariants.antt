use Rattle.attributes.proofs.LightestEdges.{AreLightestTo}
use Rattle.attributes.proofs.floors.note_weights.Given as goal

-- the weights of the edges so far are noted
abbrev pub invariant-loop-e : goal.invariant-loop-e
invariant-loop-e l = AreLightestTo l.graph l.e l.lightest
