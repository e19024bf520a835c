use Rattle.std.proofs.Common.{ℕ, Bool}
use Rattle.partition_tree.specs.TreeLists.{nodes}
use Rattle.partition_tree.specs.NearestStops.{AnswersTest}
use Rattle.partition_tree.proofs.NearestStops.{AreOfStopsFrom}
use Rattle.partition_tree.proofs.passes.send_down.Given as goal

-- the nodes from i on have the values of their nearest stops
abbrev pub invariant-loop-i : goal.invariant-loop-i
invariant-loop-i g l = (test : ℕ → Bool) → AnswersTest (nodes l.tree) (goal.F-post g l.stops) test → AreOfStopsFrom l.tree test l.i l.fn.values l.values
