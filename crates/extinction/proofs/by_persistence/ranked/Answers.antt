use Rattle.std.proofs.Common.{◌+◌, ◌-◌, arith}
use Rattle.watershed_cut.proofs.ChosenEdges.{maker-below}
use Rattle.extinction.proofs.by_persistence.ranked.Goals as goal

pub overflow_add-leaves : goal.overflow_add-leaves
overflow_add-leaves c = omega (arith, c.requires.within, c.requires.one_each, c.keeps_its_rules.ensures.well_formed.one_maker_each, c.keeps_its_rules.ensures.well_formed.small, c.leaves.ensures.value)

pub maker-maker-requires-clause-within : goal.maker-maker-requires-clause-within
maker-maker-requires-clause-within c = omega (arith, c.requires.within, c.requires.one_each, c.keeps_its_rules.ensures.well_formed.one_maker_each, c.leaves.ensures.value)

pub edge-edge-requires : goal.edge-edge-requires
edge-edge-requires c = maker-below c.args.graph.now c.args.tree.now (c.leaves.result + c.args.place - c.args.tree.now.leaves) c.maker-maker.result c.requires.tree c.maker-maker.ensures
