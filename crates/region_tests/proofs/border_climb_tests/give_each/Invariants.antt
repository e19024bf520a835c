use Rattle.border_climb.proofs.Lots.{AreGiven}
use Rattle.region_tests.proofs.border_climb_tests.give_each.Given as goal

abbrev pub invariant-loop-edge : goal.invariant-loop-edge
invariant-loop-edge g l = AreGiven l.initial.part l.part l.edges l.edge-index
