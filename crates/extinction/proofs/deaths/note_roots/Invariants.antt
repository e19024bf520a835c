use Rattle.extinction.specs.Values.{attribute_values}
use Rattle.extinction.specs.NodeSurvivors.{AreRootsFrom}
use Rattle.extinction.proofs.deaths.note_roots.Given as goal

-- the roots from node i on are noted
abbrev pub invariant-loop-i : goal.invariant-loop-i
invariant-loop-i l = AreRootsFrom l.tree l.minima (attribute_values l.kind l.attributes) l.survivors.labels.items l.i l.values
