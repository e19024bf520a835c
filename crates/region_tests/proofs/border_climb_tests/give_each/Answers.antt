use Rattle.std.specs.Prelude.{slice_index_or}
use Rattle.std.proofs.lemmas.List.{get_or_default}
use Rattle.hg_base.specs.declared.graph.PlacedEdge.{PlacedEdge}
use Rattle.std.proofs.Common.{List, ℕ}
use Rattle.border_climb.proofs.Lots.{given-none, given-more, given-next}
use Rattle.region_tests.proofs.border_climb_tests.give_each.Goals as goal

abbrev at : List PlacedEdge → ℕ → PlacedEdge
at edges i = slice_index_or edges i (record { rank = 0; a = 0; b = 0 })

pub loop-edge-init : goal.loop-edge-init
loop-edge-init g c = given-none c.args.part.now c.args.edges.now

pub give-requires-clause-a : goal.give-requires-clause-a
give-requires-clause-a g c =
    (given-next c.args.part.now c.loop-edge.part c.args.edges.now c.loop-edge.edge-index (at c.args.edges.now c.loop-edge.edge-index) c.loop-edge-test.true (get_or_default _ _ _ _ c.loop-edge-test.true) c.loop-edge.invariant c.requires.0 c.requires.1).0.0

pub give-requires-clause-b : goal.give-requires-clause-b
give-requires-clause-b g c =
    (given-next c.args.part.now c.loop-edge.part c.args.edges.now c.loop-edge.edge-index (at c.args.edges.now c.loop-edge.edge-index) c.loop-edge-test.true (get_or_default _ _ _ _ c.loop-edge-test.true) c.loop-edge.invariant c.requires.0 c.requires.1).0.1

pub give-requires-clause-two : goal.give-requires-clause-two
give-requires-clause-two g c =
    (given-next c.args.part.now c.loop-edge.part c.args.edges.now c.loop-edge.edge-index (at c.args.edges.now c.loop-edge.edge-index) c.loop-edge-test.true (get_or_default _ _ _ _ c.loop-edge-test.true) c.loop-edge.invariant c.requires.0 c.requires.1).1.0

pub give-requires-clause-stands : goal.give-requires-clause-stands
give-requires-clause-stands g c =
    (given-next c.args.part.now c.loop-edge.part c.args.edges.now c.loop-edge.edge-index (at c.args.edges.now c.loop-edge.edge-index) c.loop-edge-test.true (get_or_default _ _ _ _ c.loop-edge-test.true) c.loop-edge.invariant c.requires.0 c.requires.1).1.1

pub loop-edge-preserved : goal.loop-edge-preserved
loop-edge-preserved g c =
    given-more c.args.part.now c.loop-edge.part c.give.new.self c.args.edges.now c.loop-edge.edge-index (at c.args.edges.now c.loop-edge.edge-index) c.loop-edge-test.true (get_or_default _ _ _ _ c.loop-edge-test.true) c.loop-edge.invariant
    c.give.ensures.stands c.give.ensures.kept
