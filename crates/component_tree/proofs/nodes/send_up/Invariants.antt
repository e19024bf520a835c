use Rattle.component_tree.proofs.Leasts.{AreLeastsTo}
use Rattle.component_tree.proofs.nodes.send_up.Given as goal

-- the nodes so far have sent up the least leaf below them
abbrev pub invariant-loop-i : goal.invariant-loop-i
invariant-loop-i l = AreLeastsTo l.tree l.i l.leasts
